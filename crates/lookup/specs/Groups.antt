-- A group of entries, counted from its first, and what numbers and-ed tell of it.
use Rattle.std.specs.Prelude.{◌≡◌, Bool, not, ℕ, ◌+◌, ◌/◌, ◌^◌, eqb}
use Rattle.laws.specs.Scan.{some_below, flag}

-- entries of a group, counted from its first
abbrev pub from : ℕ → (ℕ → Bool) → ℕ → Bool
from i p k = p (i + k)

-- the number of an entry is the key
abbrev pub like : (ℕ → ℕ) → ℕ → ℕ → Bool
like number key i = eqb (number i) key

-- ---- numbers and-ed, whose top bit is set as long as none passes
abbrev pub Clear : (ℕ → Bool) → ℕ → ℕ → Type 0
Clear p k all = all / 2 ^ 31 ≡ flag (not (some_below k p))
