-- The one test of a table of CRC-32 that is computed.
use Rattle.std.specs.Prelude.{Bool, true, false, List, [], ◌∷◌, ℕ, ◌+◌, ◌*◌, eqb, take, drop}
use Rattle.laws.specs.Table.{both, holds}
use Rattle.crc.specs.Crc.{bits_out}
use Rattle.crc.specs.Arm.{pick, basis}

-- each number of the second list stands a byte after the one at its place in the first
abbrev pub follows : List ℕ → List ℕ → Bool
follows xs [] = true
follows [] (y ∷ ys) = false
follows (x ∷ xs) (y ∷ ys) = both (eqb y (bits_out 8 x)) (follows xs ys)

-- the first row's entries at the powers of two
abbrev pub powers : ℕ → List ℕ
powers n = basis (bits_out (32 * n + 8)) 0 8

abbrev pub passes : List ℕ → List ℕ → Bool
passes es l = both (holds (pick es) 0 (take 256 l)) (follows l (drop 256 l))
