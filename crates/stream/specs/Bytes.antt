-- The word that four bytes make.
use Rattle.std.specs.Prelude.{List, ℕ, ◌+◌, ◌*◌, get_or}

-- the word whose most significant byte stands at i
abbrev pub word_at : List ℕ → ℕ → ℕ
word_at bytes i = ((get_or bytes i 0 * 256 + get_or bytes (i + 1) 0) * 256 + get_or bytes (i + 2) 0) * 256 + get_or bytes (i + 3) 0
