-- That the code's steps come to what a plan carried out is.
use Rattle.std.specs.Prelude.{◌≡◌, refl, Bool, cond, Result, Ok, Err, List, ℕ}
use Rattle.std.proofs.Common.{sym, ◌∙◌, ap, subst, ne_eqb}
use Rattle.std.specs.Result.{result_and}
use Rattle.drops.specs.declared.Dropped.{Dropped}
use Rattle.drops.specs.Numbers.{number_of, number_in}
use Rattle.drops.specs.Laws.{not_none}
use Rattle.spend.specs.Spend.{Spent}
use Rattle.spend.specs.Answered.{spent_in}
use Rattle.ports.specs.declared.Sending.{Sending}
use Rattle.plan.specs.declared.Course.{Course}
use Rattle.plan.specs.Plan as planned
use Rattle.plan.specs.Plan.{Planned, Goes}
use Rattle.settle.specs.declared.Verdict.{Verdict}
use Rattle.settle.specs.declared.Verdict.TheVariants.{Drop, Sent}
use Rattle.spend.specs.declared.Held.{Held}
use Rattle.settle.specs.Answered.{verdict_in, settled_in}
use Rattle.settle.specs.Settle.{Settled, spent_with, verdict_of, settled_by, settled_of, held_at, stored, Carries}

-- ---- a course on the row

pub settles_as : (w : Course) (h : Held) (time l : ℕ) (s : Spent) (v : Verdict) → s ≡ spent_with w h time l → v ≡ verdict_of w.sending s.drop
    → ◌≡◌ {A = Settled} (record { verdict = v; held = record { credit = s.credit; since = s.since; units = s.units } }) (settled_of w h time l)
unfolding settled_of
settles_as w h time l s v e q =
    ap (λ (x : Verdict). record { verdict = x; held = record { credit = s.credit; since = s.since; units = s.units } }) q ∙ ap (settled_by w) e

-- sent where nothing drops it
verdict_is : (s : Sending) (r : Result (Unit {0}) Dropped) → verdict_in (result_and r (Ok s)) ≡ verdict_of s (number_in r)
verdict_is s (Ok x) = refl
verdict_is s (Err d) = ap (λ (t : Bool). cond t (Sent s) (Drop (number_of d))) (sym (ne_eqb (number_of d) 0 (not_none d)))

pub settles_by : (w : Course) (h k : Held) (time l : ℕ) (r : Result (Unit {0}) Dropped) (o : Result Sending Dropped) → spent_in r k ≡ spent_with w h time l
    → o ≡ result_and r (Ok w.sending)
    → settled_in o k ≡ settled_of w h time l
unfolding settled_of
settles_by w h k time l r o e q =
    ap (λ (v : Verdict). settled v k) (ap verdict_in q ∙ verdict_is w.sending r) ∙ ap (settled_by w) e
  where
    settled : Verdict → Held → Settled
    settled v x = record { verdict = v; held = x }

-- what was settled on the cells that were loaded, and stored
pub runs_as : (g : List ℕ) (time l : ℕ) (w : Course) (s : Settled) → s ≡ settled_of w (held_at g w) time l → Carries g time l (Goes w) s.verdict (stored g w s.held)
runs_as g time l w s e = record { verdict = ap (λ (x : Settled). x.verdict) e; row = ap (λ (x : Settled). stored g w x.held) e }

-- a plan p that was matched
pub carries_as : (g : List ℕ) (time l : ℕ) (p q : Planned) (r : Verdict) (after : List ℕ) → p ≡ q → Carries g time l q r after → Carries g time l p r after
carries_as g time l p q r after e x = subst (λ (k : Planned). Carries g time l k r after) (sym e) x

pub drop_carries : (g : List ℕ) (time l : ℕ) (n : ℕ) → Carries g time l (planned.Dropped n) (Drop n) g
drop_carries g time l n = record { verdict = refl; row = refl }
