-- Steps 9 to 11 on the few cells that a course concerns: one meter's credit and time, one partition's units (document 01, "One frame, step by step").
use Rattle.std.specs.Prelude.{◌≡◌, cond, List, ℕ, eqb}
use Rattle.ledger.specs.Row.{units, credit, since, cell, put}
use Rattle.spend.specs.declared.Meter.{Meter}
use Rattle.spend.specs.Spend.{Spent, spent_of}
use Rattle.ports.specs.declared.Sending.{Sending}
use Rattle.plan.specs.declared.Course.{Course}
use Rattle.plan.specs.Plan.{Planned, Dropped, Goes}
use Rattle.settle.specs.declared.Verdict.{Verdict}
use Rattle.settle.specs.declared.Verdict.TheVariants.{Drop, Sent}
use Rattle.spend.specs.declared.Held.{Held}

-- the course's meter, as these cells have it
abbrev pub meter_of : Course → Held → Meter
meter_of w h = record { smax = w.smax; rate = w.rate; credit = h.credit; since = h.since }

abbrev pub spent_with : Course → Held → ℕ → ℕ → Spent
spent_with w h time l = spent_of (meter_of w h) time h.units l w.sending.ports

-- the verdict by the number that steps 9 to 11 answer, 0 for sent
abbrev pub verdict_of : Sending → ℕ → Verdict
verdict_of sending drop = cond (eqb drop 0) (Sent sending) (Drop drop)

-- the verdict, and the cells as it leaves them
pub record Settled : Type 0 where
  pub verdict : Verdict
  pub held : Held

abbrev pub settled_by : Course → Spent → Settled
settled_by w s = record { verdict = verdict_of w.sending s.drop; held = record { credit = s.credit; since = s.since; units = s.units } }

unfoldable pub settled_of : Course → Held → ℕ → ℕ → Settled
settled_of w h time l = settled_by w (spent_with w h time l)

-- ---- on the row

-- the cells that a course concerns
abbrev pub held_at : List ℕ → Course → Held
held_at g w = record { credit = cell g credit w.meter; since = cell g since w.meter; units = cell g units w.partition }

abbrev pub stored : List ℕ → Course → Held → List ℕ
stored g w h = put (put (put g units w.partition h.units) credit w.meter h.credit) since w.meter h.since

-- a verdict, and the row afterwards
pub record Judged : Type 0 where
  pub verdict : Verdict
  pub row : List ℕ

abbrev pub judged : Verdict → List ℕ → Judged
judged v g = record { verdict = v; row = g }

-- what a plan comes to and what it spends: nothing where it is a drop. Nothing is noted of it here
abbrev pub carried_out : List ℕ → ℕ → ℕ → Planned → Judged
carried_out g time l (Dropped n) = judged (Drop n) g
carried_out g time l (Goes w) = judged (settled_of w (held_at g w) time l).verdict (stored g w (settled_of w (held_at g w) time l).held)

pub record Carries (g : List ℕ) (time l : ℕ) (p : Planned) (r : Verdict) (after : List ℕ) : Type 0 where
  pub verdict : r ≡ (carried_out g time l p).verdict
  pub row : after ≡ (carried_out g time l p).row
