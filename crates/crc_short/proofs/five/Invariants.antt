-- `crc_short::five` meets its contract. The loop's invariant: what the first k words leave stands at the end of `left`, and the other words at the start of `rest`.
use Rattle.std.proofs.Common.{◌≡◌, ℕ, ◌+◌, ◌-◌, ◌<◌, get_or}
use Rattle.crc.specs.Crc.{bits_out}
use Rattle.crc_short_bytes.specs.Twice.{twice}
use Rattle.crc_short.specs.Turn.{reach}
use Rattle.crc_short.proofs.five.Given as goal

abbrev pub invariant-loop-k : goal.invariant-loop-k
invariant-loop-k l = record {
  taken : (i : ℕ) → i < l.k → get_or l.left (i + (5 - l.k)) 0 ≡ twice (bits_out (reach i) (get_or l.fn.words i 0));
  to_come : (i : ℕ) → i + l.k < 5 → get_or l.rest i 0 ≡ get_or l.fn.words (i + l.k) 0;
}
