-- What an entry of a table that stands in the code as a match is made of: the entries at the powers of two.
use Rattle.std.specs.Prelude.{◌≡◌, List, [], ◌∷◌, ℕ, zero, suc, ◌*◌, ◌/◌, ◌%◌, ◌^◌, ◌<◌}
use Rattle.std.specs.Int.Bits.{bit_xor}

-- the exclusive or of those numbers whose bit is set in k
abbrev pub pick : List ℕ → ℕ → ℕ
pick [] k = 0
pick (e ∷ es) k = bit_xor (k % 2 * e) (pick es (k / 2))

-- the values of f at m powers of two, from the p-th on
abbrev pub basis : (ℕ → ℕ) → ℕ → ℕ → List ℕ
basis f p zero = []
basis f p (suc m) = f (2 ^ p) ∷ basis f (suc p) m

-- what the law asks of f
pub record Linear (f : ℕ → ℕ) : Type 0 where
  pub none : f 0 ≡ 0
  pub xor : (a b : ℕ) → a < 2 ^ 32 → b < 2 ^ 32 → bit_xor (f a) (f b) ≡ f (bit_xor a b)
