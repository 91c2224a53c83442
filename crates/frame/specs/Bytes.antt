-- What a frame's bytes say (IEEE 802.1Q for the tag; document 01, step 3).
use Rattle.std.specs.Prelude.{Bool, cond, Option, Some, None, List, ℕ, ◌+◌, ◌*◌, ◌/◌, ◌%◌, eqb, length, get_or}
use Rattle.frame.specs.declared.Tag.{Tag}

-- "L is its bytes plus 4"
abbrev pub octets_of : List ℕ → ℕ
octets_of frame = length frame + 4

-- the address in the six bytes from `at` on, the first byte highest
abbrev pub mac_at : List ℕ → ℕ → ℕ
mac_at frame at =
    get_or frame at 0 * 0x10000000000
    + get_or frame (at + 1) 0 * 0x100000000
    + get_or frame (at + 2) 0 * 0x1000000
    + get_or frame (at + 3) 0 * 0x10000
    + get_or frame (at + 4) 0 * 0x100
    + get_or frame (at + 5) 0

abbrev pub destination_of : List ℕ → ℕ
destination_of frame = mac_at frame 0

abbrev pub source_of : List ℕ → ℕ
source_of frame = mac_at frame 6

-- "destination FF:FF:FF:FF:FF:FF", and no other address
abbrev pub broadcasts : ℕ → Bool
broadcasts mac = eqb mac 0xFFFFFFFFFFFF

-- the two bytes from `at` on
abbrev pub pair_at : List ℕ → ℕ → ℕ
pair_at frame at = get_or frame at 0 * 256 + get_or frame (at + 1) 0

-- a tag of its three values
abbrev pub tag : ℕ → ℕ → ℕ → Tag
tag at priority vlan = record { at = at; priority = priority; vlan = vlan }

-- "tagged means bytes 12 and 13 are 81 00. The tag gives priority p and VLAN": three bits, one that is not read, and twelve
unfoldable pub tag_of : List ℕ → Option Tag
tag_of frame = cond (eqb (pair_at frame 12) 0x8100) (Some (tag 12 (pair_at frame 14 / 8192 % 8) (pair_at frame 14 % 4096))) None
