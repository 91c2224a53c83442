-- A test of every number that some rules can give.
use Rattle.std.specs.Prelude.{Bool, true, ◌&&◌, List, [], ◌∷◌, ℕ}
use Rattle.rules.specs.Rules.{Rule}

abbrev pub all_numbers : (ℕ → Bool) → List Rule → Bool
all_numbers p [] = true
all_numbers p (r ∷ rs) = p r.number && all_numbers p rs
