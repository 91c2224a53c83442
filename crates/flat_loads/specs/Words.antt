-- Words of 32 bits.
use Rattle.std.specs.Prelude.{List, ℕ, ◌<◌, get_or}

-- each word has 32 bits, as its type says
abbrev pub Words : List ℕ → Type 0
Words ws = (i : ℕ) → get_or ws i 0 < 4294967296
