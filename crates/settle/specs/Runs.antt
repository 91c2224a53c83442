-- What carrying out a plan asks.
use Rattle.std.specs.Prelude.{◌<◌}
use Rattle.ledger.specs.Row.{units, credit, many}
use Rattle.plan.specs.declared.Course.{Course}
use Rattle.plan.specs.Plan.{Planned, Dropped, Goes}

-- what carrying out a course asks: its cells are there, and its numbers small enough
pub record Runs (w : Course) : Type 0 where
  pub meter : w.meter < many credit
  pub smax : w.smax < 65536
  pub rate : w.rate < 65536
  pub partition : w.partition < many units

abbrev pub RunsAll : Planned → Type 0
RunsAll (Dropped n) = Unit {0}
RunsAll (Goes w) = Runs w
