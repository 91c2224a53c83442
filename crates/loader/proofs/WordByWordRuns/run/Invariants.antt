-- `loader::WordByWord::run`: what is left of the machine's run is the whole run.
use Rattle.std.proofs.Common.{◌≡◌, length, drop}
use Rattle.stream.specs.Machine.{at, run}
use Rattle.stream.specs.Fine.{Fine}
use Rattle.loader.proofs.WordByWordRuns.run.Given as goal

abbrev pub invariant-loop-w : goal.invariant-loop-w
invariant-loop-w l = record {
  long : length l.image ≡ length l.initial.image;
  fine : Fine (at l.state l.image);
  runs : run (at l.state l.image) (drop l.w-index l.words) ≡ run (at l.initial.state l.initial.image) l.words;
}
