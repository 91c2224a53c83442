-- `broken::stray`: the mark of either VLAN tells whether 07 has an entry of it.
use Rattle.std.proofs.Common.{◌≡◌, ◌∙◌, ap, Bool, true, false, not, List, map, ℕ, ◌<◌, length, get_or, rules}
use Rattle.laws.specs.Chain.{hit, pass}
use Rattle.laws.specs.Scan.{flag, Marks}
use Rattle.image.specs.Layout.{count_of}
use Rattle.image.specs.declared.tables.Table.TheVariants.{VlanLookup}
use Rattle.fields.specs.Fields.{vlanid, vlan_ing, vlan_egr}
use Rattle.broken.specs.Broken.{no_vlan, stray}
use Rattle.broken.proofs.MarksLaws.{unmarked_tells}
use Rattle.broken.proofs.stray.Goals as goal

-- the mark of the entry's VLAN_ING v is read first
module _ (image : List ℕ) (marks : List Bool) (i v : ℕ) (e : v ≡ vlan_ing image i) (l : v < 4096) (long : length marks ≡ 4096) (marked : Marks (count_of image VlanLookup) (vlanid image) (map flag marks)) where
  ing_missing : get_or marks v false ≡ false → not (get_or marks v false) ≡ stray image i
  ing_missing z = ap not z ∙ hit _ (no_vlan image (vlan_ing image i)) true _ (unmarked_tells image marks v l long marked ∙ ap (no_vlan image) e) (ap not z)

  -- and behind it that of its VLAN_EGR w
  egr_tells : (w : ℕ) → get_or marks v false ≡ true → w ≡ vlan_egr image i → w < 4096 → not (get_or marks w false) ≡ stray image i
  egr_tells w z f m = pass _ _ _ _ _ (unmarked_tells image marks v l long marked ∙ ap (no_vlan image) e) (ap not z) (unmarked_tells image marks w m long marked ∙ ap (no_vlan image) f)

pub returns-then-not-marks-vlan_ing : goal.returns-then-not-marks-vlan_ing
returns-then-not-marks-vlan_ing c = search (rules, ing_missing)

pub returns-else-not-marks-vlan_ing : goal.returns-else-not-marks-vlan_ing
returns-else-not-marks-vlan_ing c = search (rules, egr_tells)
