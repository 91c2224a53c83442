-- What every number of some rules passes, and 0, the first broken rule's number passes: one computed test of the list shows it of every image.
use Rattle.std.specs.Prelude.{◌≡◌, Bool, true, false, cond, List, [], ◌∷◌, ℕ}
use Rattle.laws.specs.Chain.{both_passed}
use Rattle.rules.specs.Rules.{Rule, first_of}
use Rattle.rules.specs.Numbers.{all_numbers}

pub first_holds : (p : ℕ → Bool) (rs : List Rule) (image : List ℕ) → p 0 ≡ true → all_numbers p rs ≡ true → p (first_of rs image) ≡ true
first_holds p [] image z e = z
first_holds p (r ∷ rs) image z e = go (r.broken image) (first_holds p rs image z each.1)
  where
    each : (p r.number ≡ true) × (all_numbers p rs ≡ true)
    each = both_passed (p r.number) (all_numbers p rs) e

    go : (t : Bool) → p (first_of rs image) ≡ true → p (cond t r.number (first_of rs image)) ≡ true
    go true h = each.0
    go false h = h
