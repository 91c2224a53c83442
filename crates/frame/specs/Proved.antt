-- Frames' bytes computed: which byte of an address is highest, which bits of a tag are the priority and the VLAN, and what is no tag.
use Rattle.std.specs.Prelude.{◌≡◌, refl, true, false, Some, None, List, [], ◌∷◌, ℕ}
use Rattle.frame.specs.Bytes.{destination_of, source_of, broadcasts, tag, tag_of}

-- twelve bytes of addresses, then four more
abbrev bytes : ℕ → ℕ → ℕ → ℕ → List ℕ
bytes a b c d = 1 ∷ 2 ∷ 3 ∷ 4 ∷ 5 ∷ 6 ∷ 0xA ∷ 0xB ∷ 0xC ∷ 0xD ∷ 0xE ∷ 0xF ∷ a ∷ b ∷ c ∷ d ∷ []

pub destination_first : destination_of (bytes 0 0 0 0) ≡ 0x010203040506
destination_first = refl

pub source_second : source_of (bytes 0 0 0 0) ≡ 0x0A0B0C0D0E0F
source_second = refl

-- priority 5, a bit that is not read, VLAN 0x123
pub tagged : tag_of (bytes 0x81 0x00 0xB1 0x23) ≡ Some (tag 12 5 0x123)
unfolding tag_of
tagged = refl

pub service_tag_is_none : tag_of (bytes 0x88 0xA8 0xB1 0x23) ≡ None
unfolding tag_of
service_tag_is_none = refl

-- only FF:FF:FF:FF:FF:FF is broadcast: a multicast address is not
pub broadcast : broadcasts 0xFFFFFFFFFFFF ≡ true
broadcast = refl

pub multicast_is_none : broadcasts 0x01FFFFFFFFFF ≡ false
multicast_is_none = refl
