-- Which words of an entry a field's bits lie in.
use Rattle.std.specs.Prelude.{List, ℕ, ◌<◌, get_or}

-- each element of a list of words fits 32 bits, as does the 0 past its end
abbrev pub Words : List ℕ → Type 0
Words ws = (i : ℕ) → get_or ws i 0 < 0x100000000
