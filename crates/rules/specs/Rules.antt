-- Loading rules (document 01, "Numbers for a refused load", and document 02), run on the image once the end block has passed, in this order.
use Rattle.std.specs.Prelude.{Bool, false, cond, List, [], ◌∷◌, ℕ, length, get_or}
use Rattle.laws.specs.Scan.{some_below}
use Rattle.image.specs.Loaded.{incomplete}
use Rattle.broken.specs.Broken.{vlan_twice, vlan_missing, sharindx_beyond, space_over, index_twice, retag_stray}

-- a rule: its number, and whether an image breaks it
pub record Rule : Type 0 where
  pub number : ℕ
  pub broken : List ℕ → Bool

-- the rules in their order
abbrev pub rules : List Rule
rules =
    record { number = 20; broken = incomplete }
    ∷ record { number = 21; broken = vlan_twice }
    ∷ record { number = 22; broken = vlan_missing }
    ∷ record { number = 23; broken = sharindx_beyond }
    ∷ record { number = 24; broken = space_over }
    ∷ record { number = 25; broken = index_twice }
    ∷ record { number = 28; broken = retag_stray }
    ∷ []

-- the number of the first broken rule of some; 0 where none is
abbrev pub first_of : List Rule → List ℕ → ℕ
first_of [] image = 0
first_of (r ∷ rs) image = cond (r.broken image) r.number (first_of rs image)

-- 0, or the number of the first broken rule
unfoldable pub ruled : List ℕ → ℕ
ruled image = first_of rules image

-- ---- one rule after the other

-- how many rules there are
abbrev pub rule_count : ℕ
rule_count = length rules

-- no rule: what stands past the list's end, and no image breaks it
abbrev pub blank : Rule
blank = record { number = 0; broken = λ image. false }

abbrev pub rule_at : ℕ → Rule
rule_at k = get_or rules k blank

-- what rule k says of an image: its number where the image breaks it, else 0
unfoldable pub said : List ℕ → ℕ → ℕ
said image k = cond ((rule_at k).broken image) (rule_at k).number 0

-- an image breaks some rule before k
unfoldable pub broken_before : List ℕ → ℕ → Bool
broken_before image k = some_below k (λ j. (rule_at j).broken image)
