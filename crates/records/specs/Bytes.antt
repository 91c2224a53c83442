-- Bytes of a list: the number that some of them make, and whether one differs from what has to stand there.
use Rattle.std.specs.Prelude.{Bool, false, not, ◌||◌, List, [], ◌∷◌, ℕ, ◌+◌, ◌*◌, ◌^◌, eqb, length, take, drop}

-- "all numbers high byte first"
unfoldable pub big : List ℕ → ℕ
big [] = 0
big (b ∷ bs) = b * 256 ^ length bs + big bs

-- the number in the `width` bytes from place `at` on
abbrev pub number_at : List ℕ → ℕ → ℕ → ℕ
number_at list at width = big (take width (drop at list))

-- not "whose bytes so far agree": a byte that is there differs from the one wanted at its place
unfoldable pub differ : List ℕ → List ℕ → Bool
differ [] wanted = false
differ (x ∷ xs) [] = false
differ (x ∷ xs) (w ∷ wanted) = not (eqb x w) || differ xs wanted
