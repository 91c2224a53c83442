-- Configuration K's tables (document 01, "The verdict program"), each entry made of its fields at the manual's bottom bits. A field that K does not
-- give is zero.
use Rattle.std.specs.Prelude.{cond, List, [], ◌∷◌, ◌++◌, ℕ, zero, suc, ◌+◌, ◌-◌, ◌*◌, ◌/◌, ◌%◌, ◌^◌, eqb, replicate}
use Rattle.image.specs.Rows.{Row, rows, index_of}
use Rattle.image.specs.declared.tables.Table.{Table}
use Rattle.image.specs.declared.tables.Table.TheVariants.{Policing, VlanLookup, Forwarding, MacConfiguration, ForwardingParameters, GeneralParameters, XmiiModeParameters}

-- an entry of n words, low word first
abbrev pub words : ℕ → ℕ → List ℕ
words zero e = []
words (suc n) e = e % 0x100000000 ∷ words n (e / 0x100000000)

-- n entries, one after the other
abbrev pub entries : ℕ → (ℕ → List ℕ) → List ℕ
entries zero f = []
entries (suc n) f = entries n f ++ f n

-- "45 policing entries, SHARINDX itself, SMAX 65535, RATE 64000, MAXLEN 1518, PARTITION 0"
abbrev pub policing : ℕ → List ℕ
policing i = words 2 (i * 2 ^ 58 + 65535 * 2 ^ 42 + 64000 * 2 ^ 26 + 1518 * 2 ^ 15 + 0 * 2 ^ 12)

-- "VLAN 1 with all ports in VMEMB_PORT and VLAN_BC, no tags"
abbrev pub vlan : List ℕ
vlan = words 2 (31 * 2 ^ 49 + 31 * 2 ^ 44 + 0 * 2 ^ 39 + 1 * 2 ^ 27)

-- eight VLAN_PMAP, "three bits up from 25 + 3j"
abbrev pub pmaps : ℕ → (ℕ → ℕ) → ℕ
pmaps zero f = 0
pmaps (suc j) f = pmaps j f + f j * 2 ^ (25 + 3 * j)

-- "the other four"
abbrev pub others : ℕ → ℕ
others port = 31 - 2 ^ port

-- "each port's three masks in 08 are the other four; every VLAN_PMAP passes its priority through": priority j of a port's frame becomes j
abbrev pub port : ℕ → List ℕ
port i = words 2 (others i * 2 ^ 59 + others i * 2 ^ 54 + others i * 2 ^ 49 + pmaps 8 (λ j. j))

-- at each output priority q has queue q; these entries have no mask (D60)
abbrev pub priority : ℕ → List ℕ
priority q = words 2 (pmaps 8 (λ j. q))

-- "every port INGRESS, EGRESS, VLANID 1, VLANPRIO 0, no DRPUNTAG"
abbrev pub mac : List ℕ
mac = words 7 (0 * 2 ^ 22 + 1 * 2 ^ 10 + 0 * 2 ^ 5 + 1 * 2 ^ 2 + 1 * 2 ^ 1)

-- "PART_SPC(0) 1, the rest 0"
abbrev pub spaces : List ℕ
spaces = words 3 (1 * 2 ^ 13)

-- a table and the words that K brings to it
record Brought : Type 0 where
  table : Table
  entries : List ℕ

abbrev to : Table → List ℕ → Brought
to t l = record { table = t; entries = l }

-- "11 and 4E one zero entry each"; "05 and 0D absent": not one word, and so not one zero entry
abbrev brought : List Brought
brought =
    to Policing (entries 45 policing)
    ∷ to VlanLookup vlan
    ∷ to Forwarding (entries 5 port ++ entries 8 priority)
    ∷ to MacConfiguration (entries 5 (λ i. mac))
    ∷ to ForwardingParameters spaces
    ∷ to GeneralParameters (replicate 10 0)
    ∷ to XmiiModeParameters (replicate 1 0)
    ∷ []

-- a table's words among those
abbrev words_for : Table → List Brought → List ℕ
words_for t [] = []
words_for t (b ∷ bs) = cond (eqb (index_of t) (index_of b.table)) b.entries (words_for t bs)

-- a list for each of some rows
abbrev lists_of : List Row → List (List ℕ)
lists_of [] = []
lists_of (r ∷ rs) = words_for r.table brought ∷ lists_of rs

unfoldable pub k_tables : List (List ℕ)
k_tables = lists_of rows
