-- Numbers for a refused load that are said of the buffer and its image: 31, and the loading rules' page, one literal list in the paper's order.
use Rattle.std.specs.Prelude.{◌≡◌, ◌⊎◌, List, [], ◌∷◌, ℕ, ◌<◌, ◌≤◌, length}
use Rattle.laws.specs.Scan.{total}
use Rattle.image.specs.Layout.{count_of}
use Rattle.image.specs.declared.tables.Table.TheVariants.{AddressLookup, Policing, VlanLookup, Forwarding, MacConfiguration, ForwardingParameters, GeneralParameters, XmiiModeParameters, Retagging}
use Rattle.fields.specs.Fields.{vlanid, port_vlanid, sharindx, part_spc, index, vlan_ing, vlan_egr}
use Rattle.exactly.specs.First.{Clause, clause, Some}

-- 31: "image buffer too short" for "the first 11,456 words of a lent buffer", which document 02 "grows by 64 words"
abbrev pub TooShort : List ℕ → Type 0
TooShort buffer = length buffer < 11520

-- 20: "06 or 07 has no entry, or 08 not 13, 09 not 5, 0E, 11 or 4E not 1"
abbrev pub Incomplete : List ℕ → Type 0
Incomplete image =
    (count_of image Policing ≡ 0)
    ⊎ (count_of image VlanLookup ≡ 0)
    ⊎ (count_of image Forwarding ≡ 13 → ⊥)
    ⊎ (count_of image MacConfiguration ≡ 5 → ⊥)
    ⊎ (count_of image ForwardingParameters ≡ 1 → ⊥)
    ⊎ (count_of image GeneralParameters ≡ 1 → ⊥)
    ⊎ (count_of image XmiiModeParameters ≡ 1 → ⊥)

-- 21 and 25: "two entries .. have one .."
abbrev pub Twice : ℕ → (ℕ → ℕ) → Type 0
Twice n f = Some n (λ j. Some j (λ i. f i ≡ f j))

-- a VLAN "has no entry in 07"
abbrev pub NoVlan : List ℕ → ℕ → Type 0
NoVlan image vlan = (i : ℕ) → i < count_of image VlanLookup → vlanid image i ≡ vlan → ⊥

-- 22: "some port's VLANID in 09 has no entry in 07"
abbrev pub Missing : List ℕ → Type 0
Missing image = Some 5 (λ port. NoVlan image (port_vlanid image port))

-- 23: "some SHARINDX is not below the count of 06"
abbrev pub Beyond : List ℕ → Type 0
Beyond image = Some (count_of image Policing) (λ i. count_of image Policing ≤ sharindx image i)

-- 24: "the eight PART_SPC add up to more than 929"
abbrev pub Over : List ℕ → Type 0
Over image = 929 < total 8 (λ j. part_spc image j)

-- 28: "when an entry's ingress or egress VLAN has no entry in 07"
abbrev pub Stray : List ℕ → Type 0
Stray image = Some (count_of image Retagging) (λ i. NoVlan image (vlan_ing image i) ⊎ NoVlan image (vlan_egr image i))

-- "Loading rules, run once the end block has passed, in this order", and document 02's "28, after 25"
abbrev pub rules_page : List ℕ → List Clause
rules_page image =
    clause 20 (Incomplete image)
    ∷ clause 21 (Twice (count_of image VlanLookup) (λ i. vlanid image i))
    ∷ clause 22 (Missing image)
    ∷ clause 23 (Beyond image)
    ∷ clause 24 (Over image)
    ∷ clause 25 (Twice (count_of image AddressLookup) (λ i. index image i))
    ∷ clause 28 (Stray image)
    ∷ []
