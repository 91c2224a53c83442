-- What pins the search in 07: of two entries with one VLANID the first.
use Rattle.std.specs.Prelude.{◌≡◌, List, ℕ, ◌<◌, eqb}
use Rattle.std.proofs.Common.{eq-eqb, ne_eqb}
use Rattle.laws.specs.ScanLaws.{first_found, first_of_none}
use Rattle.image.specs.Layout.{count_of}
use Rattle.image.specs.declared.tables.Table.TheVariants.{VlanLookup}
use Rattle.fields.specs.Fields.{vlanid}
use Rattle.lookup.specs.Vlan.{vlan_at}

-- "the first of two 07 entries with one VLANID counts"
pub vlan_first : (image : List ℕ) (vlan i : ℕ) → i < count_of image VlanLookup → vlanid image i ≡ vlan → ((j : ℕ) → j < i → vlanid image j ≡ vlan → ⊥)
    → vlan_at image vlan ≡ i
vlan_first image vlan i l e h =
    first_found (count_of image VlanLookup) i (λ j. eqb (vlanid image j) vlan) l
    (first_of_none i (λ j. eqb (vlanid image j) vlan) (λ j k. ne_eqb (vlanid image j) vlan (h j k)))
    (eq-eqb (vlanid image i) vlan e)
