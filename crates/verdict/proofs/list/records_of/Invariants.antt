-- `verdict::list::records_of`: each record's end is past its start, so what is left of the list falls.
use Rattle.std.proofs.Common.{◌-◌, ◌≤◌, length}
use Rattle.verdict.proofs.list.records_of.Given as goal

abbrev pub invariant-loop-port : goal.invariant-loop-port
invariant-loop-port g l = l.«record» ≤ l.at

abbrev pub decreases-loop-port : goal.decreases-loop-port
decreases-loop-port g l = length l.list - l.at
