-- Entries of 07 and of 12 as words, that hold their fields in use and no other bit.
use Rattle.std.specs.Prelude.{◌≡◌, List, ℕ, ◌+◌, ◌*◌, ◌^◌}
use Rattle.image.specs.Layout.{entry_of}
use Rattle.image.specs.declared.tables.Table.TheVariants.{Retagging}
use Rattle.fields.specs.Fields.{number, bits, ing_port, vlan_ing, vlan_egr}

-- an entry of 07 that holds these four fields and no other bit
pub record Packed (words : List ℕ) (vmemb_port vlan_bc tag_port vlanid : ℕ) : Type 0 where
  pub whole : number words ≡ vmemb_port * 2 ^ 49 + vlan_bc * 2 ^ 44 + tag_port * 2 ^ 39 + vlanid * 2 ^ 27
  pub members : bits (number words) 53 49 ≡ vmemb_port
  pub broadcasts : bits (number words) 48 44 ≡ vlan_bc
  pub tags : bits (number words) 43 39 ≡ tag_port
  pub vlan : bits (number words) 38 27 ≡ vlanid

-- an entry of 12 that holds these three fields and no other bit, as its readers' definitions read it wherever it stands
pub record Retags (words : List ℕ) (ports ing egr : ℕ) : Type 0 where
  pub whole : number words ≡ ports * 2 ^ 54 + ing * 2 ^ 42 + egr * 2 ^ 30
  pub receives : (image : List ℕ) (i : ℕ) → entry_of image Retagging i ≡ words → ing_port image i ≡ ports
  pub ingress : (image : List ℕ) (i : ℕ) → entry_of image Retagging i ≡ words → vlan_ing image i ≡ ing
  pub egress : (image : List ℕ) (i : ℕ) → entry_of image Retagging i ≡ words → vlan_egr image i ≡ egr
