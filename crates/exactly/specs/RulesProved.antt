-- Each rule's test decides its words, and the rules' answer is the first of the page.
use Rattle.std.specs.Prelude.{◌≡◌, List, [], ◌∷◌, ℕ}
use Rattle.laws.specs.Scan.{total, twice}
use Rattle.image.specs.Layout.{count_of}
use Rattle.image.specs.Loaded.{incomplete}
use Rattle.image.specs.declared.tables.Table.TheVariants.{Policing, VlanLookup, Retagging}
use Rattle.fields.specs.Fields.{vlanid, port_vlanid, sharindx, part_spc, vlan_ing, vlan_egr}
use Rattle.broken.specs.Broken.{no_vlan, vlan_twice, vlan_missing, sharindx_beyond, space_over, index_twice, retag_stray}
use Rattle.rules.specs.Rules.{ruled}
use Rattle.exactly.specs.First.{First}
use Rattle.exactly.specs.Decides.{Decides}
use Rattle.exactly.specs.FirstLaws.{first_is, same_first}
use Rattle.exactly.specs.DecidesLaws.{also, by_lt, by_eq, by_or, by_not, by_not_lt, by_some, by_no_first}
use Rattle.exactly.specs.Rules.{Incomplete, Twice, NoVlan, Missing, Beyond, Over, Stray, rules_page}

-- 20's test, which 30 of a frame shares
pub is_incomplete : (image : List ℕ) → Decides (incomplete image) (Incomplete image)
unfolding incomplete
is_incomplete image =
    by_or _ _ (by_eq _ 0)
    (by_or _ _ (by_eq _ 0)
    (by_or _ _ (by_not _ (by_eq _ 13))
    (by_or _ _ (by_not _ (by_eq _ 5)) (by_or _ _ (by_not _ (by_eq _ 1)) (by_or _ _ (by_not _ (by_eq _ 1)) (by_not _ (by_eq _ 1)))))))

is_twice : (n : ℕ) (f : ℕ → ℕ) → Decides (twice n f) (Twice n f)
unfolding twice
is_twice n f = by_some n _ _ (λ j. by_some j _ _ (λ i. by_eq (f i) (f j)))

-- 22's, which 4 of a frame and of a replica shares
pub is_no_vlan : (image : List ℕ) (vlan : ℕ) → Decides (no_vlan image vlan) (NoVlan image vlan)
is_no_vlan image vlan = by_no_first (count_of image VlanLookup) _ _ (λ i. by_eq (vlanid image i) vlan)

is_missing : (image : List ℕ) → Decides (vlan_missing image) (Missing image)
is_missing image = by_some 5 _ _ (λ port. is_no_vlan image (port_vlanid image port))

is_beyond : (image : List ℕ) → Decides (sharindx_beyond image) (Beyond image)
is_beyond image = by_some (count_of image Policing) _ _ (λ i. by_not_lt (sharindx image i) (count_of image Policing))

is_over : (image : List ℕ) → Decides (space_over image) (Over image)
is_over image = by_lt 929 (total 8 (λ j. part_spc image j))

is_stray : (image : List ℕ) → Decides (retag_stray image) (Stray image)
is_stray image = by_some (count_of image Retagging) _ _ (λ i. by_or _ _ (is_no_vlan image (vlan_ing image i)) (is_no_vlan image (vlan_egr image i)))

-- the rules' answer is the number of the first of the page that holds, 0 where none does
pub ruled_first : (image : List ℕ) → First (rules_page image) (ruled image)
unfolding ruled
ruled_first image =
    first_is (rules_page image) (incomplete image ∷ vlan_twice image ∷ vlan_missing image ∷ sharindx_beyond image ∷ space_over image ∷ index_twice image ∷ retag_stray image ∷ [])
    (also (is_incomplete image) (also (is_twice _ _) (also (is_missing image) (also (is_beyond image) (also (is_over image) (also (is_twice _ _) (also (is_stray image) tt)))))))

-- and the page gives no other
pub ruled_by : (image : List ℕ) (n : ℕ) → First (rules_page image) n → ruled image ≡ n
ruled_by image n f = same_first (rules_page image) (ruled image) n (ruled_first image) f
