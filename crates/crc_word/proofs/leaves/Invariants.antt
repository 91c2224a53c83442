-- `crc_word::leaves` meets its contract. The loop's invariant: j bytes of the word are taken, and what they leave is in `left`.
use Rattle.crc.specs.Bytes.{Taken}
use Rattle.crc_word.proofs.leaves.Given as goal

abbrev pub invariant-loop-j : goal.invariant-loop-j
invariant-loop-j l = Taken (λ x. x) 32 l.w l.j l.rest l.left
