-- What the code's answer to steps 1 to 11 says: the verdict, a drop by its number, and the cells that are left.
use Rattle.std.specs.Prelude.{Result, Ok, Err}
use Rattle.drops.specs.declared.Dropped.{Dropped}
use Rattle.drops.specs.Numbers.{number_of}
use Rattle.spend.specs.declared.Held.{Held}
use Rattle.ports.specs.declared.Sending.{Sending}
use Rattle.settle.specs.declared.Verdict.{Verdict}
use Rattle.settle.specs.declared.Verdict.TheVariants.{Drop, Sent}
use Rattle.settle.specs.Settle.{Settled}

abbrev pub verdict_in : Result Sending Dropped → Verdict
verdict_in (Ok s) = Sent s
verdict_in (Err d) = Drop (number_of d)

abbrev pub settled_in : Result Sending Dropped → Held → Settled
settled_in r h = record { verdict = verdict_in r; held = h }
