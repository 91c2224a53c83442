-- The test of a rule at all entries of a table, one after the other.
use Rattle.std.specs.Prelude.{Bool, true, false, List, [], ◌∷◌, ℕ, suc, eqb}

-- both tests pass
abbrev pub both : Bool → Bool → Bool
both true b = b
both false b = false

-- the list holds f of each place, counted from i
abbrev pub holds : (ℕ → ℕ) → ℕ → List ℕ → Bool
holds f i [] = true
holds f i (x ∷ xs) = both (eqb x (f i)) (holds f (suc i) xs)
