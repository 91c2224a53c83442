-- `image_vectors::main`: what every step of a load keeps.
use Rattle.std.proofs.Common.{◌≡◌, length}
use Rattle.image.specs.Layout.{image_words}
use Rattle.stream.specs.Fine.{Fine}
use Rattle.stream.specs.Machine.{at}
use Rattle.image_vectors.proofs.main.Given as goal

abbrev pub invariant-loop-four : goal.invariant-loop-four
invariant-loop-four l = (length l.image ≡ image_words) × Fine (at l.load l.image)
