-- `whole::bytes_run`: what is left of the machine's run is the whole run.
use Rattle.std.proofs.Common.{◌≡◌, ◌*◌, length, drop}
use Rattle.stream.specs.Paper.{words_of}
use Rattle.stream.specs.Machine.{at, run}
use Rattle.stream.specs.Fine.{Fine}
use Rattle.whole.proofs.bytes_run.Given as goal

abbrev pub invariant-loop-chunk : goal.invariant-loop-chunk
invariant-loop-chunk l = record {
  long : length l.image ≡ length l.initial.image;
  fine : Fine (at l.state l.image);
  runs : run (at l.state l.image) (words_of (drop (l.chunk-index * 1024) l.bytes)) ≡ run (at l.initial.state l.initial.image) (words_of l.bytes);
}
