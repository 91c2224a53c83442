-- `crc_short::kept` meets its contract. The loop's invariant: j bytes of the word are taken, and what they leave, by the number kept at place k, is in `left`.
use Rattle.crc.specs.Bytes.{Taken}
use Rattle.crc_short_bytes.specs.Twice.{twice}
use Rattle.crc_short.specs.Turn.{reach}
use Rattle.crc_short.proofs.kept.Given as goal

abbrev pub invariant-loop-j : goal.invariant-loop-j
invariant-loop-j l = Taken twice (reach l.k) l.w l.j l.rest l.left
