-- What the code's answer to steps 1 to 3 says: the drop by its number, or the frame taken in.
use Rattle.std.specs.Prelude.{Result, Ok, Err}
use Rattle.drops.specs.declared.Dropped.{Dropped}
use Rattle.drops.specs.Numbers.{number_of}
use Rattle.frame.specs.declared.Received.{Received}
use Rattle.frame.specs.Intake as intake
use Rattle.frame.specs.Intake.{Intake}

abbrev pub intake_in : Result Received Dropped → Intake
intake_in (Ok r) = intake.Taken r.vlan r.priority r.tagged
intake_in (Err d) = intake.Dropped (number_of d)
