-- `crc_word::word_in_both` meets its contract. The loop's invariant: the registers before the index have taken the word, the others are to come.
use Rattle.std.proofs.Common.{◌≡◌, ℕ, ◌<◌, ◌≤◌, get_or}
use Rattle.crc.specs.Crc.{bits_out}
use Rattle.crc_word.proofs.word_in_both.Given as goal

abbrev pub invariant-loop-r : goal.invariant-loop-r
invariant-loop-r l = record {
  taken : (k : ℕ) → k < l.r-index → get_or l.r-items k 0 ≡ bits_out 32 (get_or l.initial.r-items k 0);
  to_come : (k : ℕ) → l.r-index ≤ k → get_or l.r-items k 0 ≡ get_or l.initial.r-items k 0;
}
