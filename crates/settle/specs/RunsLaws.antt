-- A plan made on an image that 30 does not refuse can be carried out.
use Rattle.std.specs.Prelude.{◌≡◌, Ok, List, ℕ, ◌<◌}
use Rattle.std.proofs.Common.{sym, subst, lt_of_lt_of_le}
use Rattle.image.specs.Layout.{image_in, count_of}
use Rattle.image.specs.Sound.{Sound}
use Rattle.image.specs.declared.tables.Table.TheVariants.{Policing}
use Rattle.plan.specs.declared.Course.{Course}
use Rattle.plan.specs.Police.{by}
use Rattle.plan.specs.Plan.{Planned, Dropped, Goes, course_of}
use Rattle.plan.specs.Sane.{Sane, Follows}
use Rattle.plan.proofs.Laws.{follows_by}
use Rattle.settle.specs.Runs.{Runs, RunsAll}

pub runs : (buffer : List ℕ) (w : Course) → Sound buffer → Sane (image_in buffer) w → Runs w
runs buffer w s f =
    record { meter = lt_of_lt_of_le f.meter (s.within.within Policing); smax = f.smax; rate = f.rate; partition = f.partition }

-- a plan p that a call handed over
pub plan_runs : (buffer : List ℕ) (p q : Planned) → Sound buffer → p ≡ q → Follows (image_in buffer) q → RunsAll p
plan_runs buffer p q s e f = subst RunsAll (sym e) (go q f)
  where
    go : (r : Planned) → Follows (image_in buffer) r → RunsAll r
    go (Dropped n) h = tt
    go (Goes w) h = runs buffer w s h

-- a course w that a call handed over
pub course_runs : (buffer : List ℕ) (port destination vlan place priority policer meter : ℕ) (w : Course) → Sound buffer → policer < count_of (image_in buffer) Policing
    → meter < count_of (image_in buffer) Policing
    → w ≡ course_of (image_in buffer) port destination vlan place priority policer meter
    → Runs w
course_runs buffer port destination vlan place priority policer meter w s p m e =
    subst Runs (sym e) (runs buffer _ s (follows_by (image_in buffer) port destination vlan place priority (Ok (by policer meter)) (p, m)))
