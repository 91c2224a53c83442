-- Steps 4 to 6, one definition each (document 01, "One frame, step by step").
use Rattle.std.specs.Prelude.{Bool, false, cond, not, Option, Some, None, List, ℕ, eqb}
use Rattle.image.specs.Layout.{count_of}
use Rattle.image.specs.declared.tables.Table.TheVariants.{VlanLookup}
use Rattle.fields.specs.Fields.{vmemb_port}
use Rattle.lookup.specs.Vlan.{vlan_at}
use Rattle.addresses.specs.Address.{holds, barred}

-- an entry of 07, or the count of 07 for none
abbrev pub placed_at : List ℕ → ℕ → Option ℕ
placed_at image place = cond (eqb place (count_of image VlanLookup)) None (Some place)

-- 4. "The VLAN has no entry in 07."
unfoldable pub placed_of : List ℕ → ℕ → Option ℕ
placed_of image vlan = placed_at image (vlan_at image vlan)

-- 5. "Tagged and the port is not in VMEMB_PORT."
abbrev pub outsider : List ℕ → ℕ → Bool → ℕ → Bool
outsider image port tagged place = cond tagged (not (holds (vmemb_port image place) port)) false

-- 5, then 6: "some 05 entry has ENFPORT, the source address, and this VLAN .., and its DESTPORTS lacks the port"; 0 where neither drops
unfoldable pub kept_out : List ℕ → ℕ → ℕ → Bool → ℕ → ℕ → ℕ
kept_out image port vlan tagged source place =
    cond (outsider image port tagged place) 5 (cond (barred image port vlan source) 6 0)
