-- `one_block::copy`: after k turns the first k words are in place.
use Rattle.std.proofs.Common.{◌≡◌, length}
use Rattle.std.proofs.Math.Seq.{paste}
use Rattle.one_block.proofs.copy.Given as goal

abbrev pub invariant-loop-k : goal.invariant-loop-k
invariant-loop-k l = (l.image ≡ paste l.initial.image l.place l.words l.k) × (length l.image ≡ length l.initial.image)
