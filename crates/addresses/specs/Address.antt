-- Searches in 05 (document 01, drop 6 and "Ports").
use Rattle.std.specs.Prelude.{Bool, true, false, cond, not, List, ℕ, ◌/◌, ◌%◌, ◌^◌, eqb}
use Rattle.laws.specs.Scan.{some_below, least}
use Rattle.image.specs.Layout.{count_of}
use Rattle.image.specs.declared.tables.Table.TheVariants.{AddressLookup}
use Rattle.fields.specs.Fields.{address_vlanid, macaddr, destports, enfport, index, shared_learn}

-- a port is in a mask: "port 0 the lowest bit"
abbrev pub holds : ℕ → ℕ → Bool
holds mask port = eqb (mask / 2 ^ port % 2) 1

-- entry i's address ends in these 28 bits
abbrev pub like_address : List ℕ → ℕ → ℕ → Bool
like_address image key i = eqb (macaddr image i % 268435456) key

-- entry i has the address
abbrev pub has_address : List ℕ → ℕ → ℕ → Bool
has_address image mac i = eqb (macaddr image i) mac

-- entry i has the address "and this VLAN (not compared under SHARED_LEARN)"
abbrev pub matches : List ℕ → ℕ → ℕ → ℕ → Bool
matches image vlan mac i =
    cond (not (has_address image mac i)) false (cond (eqb (shared_learn image) 1) true (eqb (address_vlanid image i) vlan))

-- entry i "has ENFPORT, the source address, and this VLAN, and its DESTPORTS lacks the port"
abbrev pub bars : List ℕ → ℕ → ℕ → ℕ → ℕ → Bool
bars image port vlan mac i =
    cond (eqb (enfport image i) 0) false (cond (holds (destports image i) port) false (matches image vlan mac i))

-- drop 6: "some 05 entry" does
abbrev pub barred : List ℕ → ℕ → ℕ → ℕ → Bool
barred image port vlan mac = some_below (count_of image AddressLookup) (λ i. bars image port vlan mac i)

-- "the 05 match on destination with the lowest INDEX"; of equal INDEX the first; the count of 05 where there is none
abbrev pub destination_at : List ℕ → ℕ → ℕ → ℕ
destination_at image vlan mac = least (count_of image AddressLookup) (λ i. matches image vlan mac i) (λ i. index image i)
