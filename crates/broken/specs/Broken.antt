-- When an image breaks a loading rule after 20 (document 01, "Numbers for a refused load", and document 02).
use Rattle.std.specs.Prelude.{Bool, true, cond, not, List, ℕ, ltb, eqb}
use Rattle.laws.specs.Scan.{some_below, total, twice}
use Rattle.image.specs.Layout.{count_of}
use Rattle.image.specs.declared.tables.Table.TheVariants.{AddressLookup, Policing, VlanLookup, Retagging}
use Rattle.fields.specs.Fields.{vlanid, port_vlanid, sharindx, part_spc, index, vlan_ing, vlan_egr}
use Rattle.lookup.specs.Vlan.{vlan_at}

-- 21: "two entries of 07 have one VLANID"
abbrev pub vlan_twice : List ℕ → Bool
vlan_twice image = twice (count_of image VlanLookup) (λ i. vlanid image i)

-- a VLAN "has no entry in 07"
abbrev pub no_vlan : List ℕ → ℕ → Bool
no_vlan image v = eqb (vlan_at image v) (count_of image VlanLookup)

-- 22: "some port's VLANID in 09 has no entry in 07"
abbrev pub vlan_missing : List ℕ → Bool
vlan_missing image = some_below 5 (λ port. no_vlan image (port_vlanid image port))

-- 23: "some SHARINDX is not below the count of 06"
abbrev pub sharindx_beyond : List ℕ → Bool
sharindx_beyond image = some_below (count_of image Policing) (λ i. not (ltb (sharindx image i) (count_of image Policing)))

-- 24: "the eight PART_SPC add up to more than 929"
abbrev pub space_over : List ℕ → Bool
space_over image = ltb 929 (total 8 (λ j. part_spc image j))

-- 25: "two entries of 05 have one INDEX"
abbrev pub index_twice : List ℕ → Bool
index_twice image = twice (count_of image AddressLookup) (λ i. index image i)

-- entry i of 12 has an "ingress or egress VLAN" that "has no entry in 07", whatever its ING_PORT
abbrev pub stray : List ℕ → ℕ → Bool
stray image i = cond (no_vlan image (vlan_ing image i)) true (no_vlan image (vlan_egr image i))

-- 28: "when an entry's ingress or egress VLAN has no entry in 07"
abbrev pub retag_stray : List ℕ → Bool
retag_stray image = some_below (count_of image Retagging) (λ i. stray image i)
