-- Steps 1 to 6 as one: the first drop that applies, or the frame's VLAN, the VLAN's place in 07 and the priority p.
use Rattle.std.specs.Prelude.{Bool, cond, Option, Some, None, List, ℕ, eqb}
use Rattle.frame.specs.Bytes.{source_of}
use Rattle.frame.specs.Intake as intake
use Rattle.frame.specs.Intake.{Intake, intake_of}
use Rattle.plan.specs.Steps.{placed_of, kept_out}

-- dropped with the step's number, or let in with its VLAN, the VLAN's place in 07 and its priority p
pub data Entered : Type 0 where
  Dropped : ℕ → Entered
  In : ℕ → ℕ → ℕ → Entered

-- 4 by its answer, then 5 and 6
abbrev pub by_place : List ℕ → ℕ → List ℕ → ℕ → ℕ → Bool → Option ℕ → Entered
by_place image port frame vlan priority tagged None = Dropped 4
by_place image port frame vlan priority tagged (Some place) =
    cond (eqb (kept_out image port vlan tagged (source_of frame) place) 0) (In vlan place priority)
    (Dropped (kept_out image port vlan tagged (source_of frame) place))

-- 1 to 3 by their answer
abbrev pub by_intake : List ℕ → ℕ → List ℕ → Intake → Entered
by_intake image port frame (intake.Dropped n) = Dropped n
by_intake image port frame (intake.Taken vlan priority tagged) = by_place image port frame vlan priority tagged (placed_of image vlan)

unfoldable pub enter_of : List ℕ → ℕ → List ℕ → Entered
enter_of image port frame = by_intake image port frame (intake_of image port frame)
