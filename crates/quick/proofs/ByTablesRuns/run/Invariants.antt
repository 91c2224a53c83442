-- `quick::ByTables::run`: what is left of the machine's run is the whole run, whichever way the words were taken.
use Rattle.std.proofs.Common.{◌≡◌, length}
use Rattle.stream.specs.Machine.{at, run}
use Rattle.stream.specs.Fine.{Fine}
use Rattle.quick.proofs.ByTablesRuns.run.Given as goal

abbrev pub invariant-loop-first : goal.invariant-loop-first
invariant-loop-first g l = record {
  long : length l.image ≡ length l.initial.image;
  fine : Fine (at l.state l.image);
  runs : run (at l.state l.image) l.rest ≡ run (at l.initial.state l.initial.image) l.initial.rest;
}

abbrev pub decreases-loop-first : goal.decreases-loop-first
decreases-loop-first g l = length l.rest
