-- The entry of 07 for a VLAN (document 01, drop 4 and rule 22; document 02, rule 28).
use Rattle.std.specs.Prelude.{Bool, List, ℕ, eqb}
use Rattle.laws.specs.Scan.{first}
use Rattle.image.specs.Layout.{count_of}
use Rattle.image.specs.declared.tables.Table.TheVariants.{VlanLookup}
use Rattle.fields.specs.Fields.{vlanid}

-- entry i is for the VLAN v
abbrev pub has_vlan : List ℕ → ℕ → ℕ → Bool
has_vlan image v i = eqb (vlanid image i) v

-- "in an edited image the first of two 07 entries with one VLANID counts"; the count of 07 where there is none
abbrev pub vlan_at : List ℕ → ℕ → ℕ
vlan_at image v = first (count_of image VlanLookup) (λ i. has_vlan image v i)
