-- Rows (a) and (b) of document 01's proved table, two entries of 07 as words and as fields, and two of 12, with nothing else in them.
use Rattle.std.specs.Prelude.{refl, [], ◌∷◌}
use Rattle.fields.specs.Fields.{number}
use Rattle.fields.specs.Packed.{Packed, Retags}

-- (a) VLAN 1, all members, all VLAN_BC, no tags
pub row_a : Packed (0x08000000 ∷ 0x003FF000 ∷ []) 31 31 0 1
unfolding number
row_a = record { whole = refl; members = refl; broadcasts = refl; tags = refl; vlan = refl }

-- (b) VLANID 4095 alone
pub row_b : Packed (0xF8000000 ∷ 0x0000007F ∷ []) 0 0 0 4095
unfolding number
row_b = record { whole = refl; members = refl; broadcasts = refl; tags = refl; vlan = refl }

-- ---- 12, worked by hand from the manual's table 23

-- port 0 receives, VLAN 1 goes out on VLAN 2
pub retags_one : Retags (0x80000000 ∷ 0x00400400 ∷ []) 1 1 2
unfolding number
retags_one = record { whole = refl; receives = λ image i e. rw e; ingress = λ image i e. rw e; egress = λ image i e. rw e }

-- all three at their most: no neighbour's bit is read
pub retags_most : Retags (0xC0000000 ∷ 0x07FFFFFF ∷ []) 31 4095 4095
unfolding number
retags_most = record { whole = refl; receives = λ image i e. rw e; ingress = λ image i e. rw e; egress = λ image i e. rw e }
