-- What the code's answer to steps 1 to 6 says: the drop by its number, or the frame let in.
use Rattle.std.specs.Prelude.{Result, Ok, Err}
use Rattle.drops.specs.declared.Dropped.{Dropped}
use Rattle.drops.specs.Numbers.{number_of}
use Rattle.plan.specs.declared.enter.Entrant.{Entrant}
use Rattle.plan.specs.Enter as entered
use Rattle.plan.specs.Enter.{Entered}

abbrev pub entered_in : Result Entrant Dropped → Entered
entered_in (Ok e) = entered.In e.vlan e.place e.priority
entered_in (Err d) = entered.Dropped (number_of d)
