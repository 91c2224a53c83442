-- The fields that documents 01 and 02 use, each by the manual's top and bottom bit. An entry is the number that its words make, low word first.
use Rattle.std.specs.Prelude.{cond, List, [], ◌∷◌, ℕ, ◌+◌, ◌-◌, ◌*◌, ◌/◌, ◌%◌, ◌^◌, eqb}
use Rattle.image.specs.Layout.{entry_of, count_of}
use Rattle.image.specs.declared.tables.Table.{Table}
use Rattle.image.specs.declared.tables.Table.TheVariants.{AddressLookup, Policing, VlanLookup, Forwarding, MacConfiguration, LookupParameters, ForwardingParameters, Retagging}

-- "an entry's low word comes first"
unfoldable pub number : List ℕ → ℕ
number [] = 0
number (w ∷ ws) = w + 0x100000000 * number ws

-- bits top down to bottom of a number, as the manual writes top:bottom
abbrev pub bits : ℕ → ℕ → ℕ → ℕ
bits n top bottom = n / 2 ^ bottom % 2 ^ (top - bottom + 1)

-- bits top:bottom of entry i of a table
abbrev pub field_of : List ℕ → Table → ℕ → ℕ → ℕ → ℕ
field_of image t i top bottom = bits (number (entry_of image t i)) top bottom

-- ---- 05, L2 Address Lookup
abbrev pub address_vlanid : List ℕ → ℕ → ℕ
address_vlanid image i = field_of image AddressLookup i 95 84

abbrev pub macaddr : List ℕ → ℕ → ℕ
macaddr image i = field_of image AddressLookup i 83 36

abbrev pub destports : List ℕ → ℕ → ℕ
destports image i = field_of image AddressLookup i 35 31

abbrev pub enfport : List ℕ → ℕ → ℕ
enfport image i = field_of image AddressLookup i 30 30

abbrev pub index : List ℕ → ℕ → ℕ
index image i = field_of image AddressLookup i 29 20

-- ---- 06, L2 Policing
abbrev pub sharindx : List ℕ → ℕ → ℕ
sharindx image i = field_of image Policing i 63 58

abbrev pub smax : List ℕ → ℕ → ℕ
smax image i = field_of image Policing i 57 42

abbrev pub rate : List ℕ → ℕ → ℕ
rate image i = field_of image Policing i 41 26

abbrev pub maxlen : List ℕ → ℕ → ℕ
maxlen image i = field_of image Policing i 25 15

abbrev pub partition : List ℕ → ℕ → ℕ
partition image i = field_of image Policing i 14 12

-- ---- 07, VLAN Lookup
abbrev pub vmemb_port : List ℕ → ℕ → ℕ
vmemb_port image i = field_of image VlanLookup i 53 49

abbrev pub vlan_bc : List ℕ → ℕ → ℕ
vlan_bc image i = field_of image VlanLookup i 48 44

abbrev pub tag_port : List ℕ → ℕ → ℕ
tag_port image i = field_of image VlanLookup i 43 39

abbrev pub vlanid : List ℕ → ℕ → ℕ
vlanid image i = field_of image VlanLookup i 38 27

-- ---- 08, L2 Forwarding
abbrev pub bc_domain : List ℕ → ℕ → ℕ
bc_domain image i = field_of image Forwarding i 63 59

abbrev pub reach_port : List ℕ → ℕ → ℕ
reach_port image i = field_of image Forwarding i 58 54

abbrev pub fl_domain : List ℕ → ℕ → ℕ
fl_domain image i = field_of image Forwarding i 53 49

-- VLAN_PMAP(j): "three bits up from 25 + 3j"
abbrev pub vlan_pmap : List ℕ → ℕ → ℕ → ℕ
vlan_pmap image i j = field_of image Forwarding i (27 + 3 * j) (25 + 3 * j)

-- ---- 09, MAC Configuration
abbrev pub vlanprio : List ℕ → ℕ → ℕ
vlanprio image i = field_of image MacConfiguration i 24 22

abbrev pub port_vlanid : List ℕ → ℕ → ℕ
port_vlanid image i = field_of image MacConfiguration i 21 10

abbrev pub drpuntag : List ℕ → ℕ → ℕ
drpuntag image i = field_of image MacConfiguration i 5 5

abbrev pub egress : List ℕ → ℕ → ℕ
egress image i = field_of image MacConfiguration i 2 2

abbrev pub ingress : List ℕ → ℕ → ℕ
ingress image i = field_of image MacConfiguration i 1 1

-- ---- 0D, L2 Lookup Parameters: SHARED_LEARN, bit 5 of the manual's table 18; "absent means clear"
abbrev pub shared_learn : List ℕ → ℕ
shared_learn image = cond (eqb (count_of image LookupParameters) 0) 0 (field_of image LookupParameters 0 5 5)

-- ---- 0E, L2 Forwarding Parameters: PART_SPC(j), "ten bits up from 13 + 10j"
abbrev pub part_spc : List ℕ → ℕ → ℕ
part_spc image j = field_of image ForwardingParameters 0 (22 + 10 * j) (13 + 10 * j)

-- ---- 12, Retagging
abbrev pub ing_port : List ℕ → ℕ → ℕ
ing_port image i = field_of image Retagging i 58 54

abbrev pub vlan_ing : List ℕ → ℕ → ℕ
vlan_ing image i = field_of image Retagging i 53 42

abbrev pub vlan_egr : List ℕ → ℕ → ℕ
vlan_egr image i = field_of image Retagging i 41 30
