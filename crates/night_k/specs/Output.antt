-- The whole output that document 01 gives for configuration K and its list ("The verdict program"), as what the entries answer: its lines, one by one.
use Rattle.std.specs.Prelude.{◌≡◌, false, List, [], ◌∷◌, ℕ, Float, Ok}
use Rattle.std.specs.Float.{binary64}
use Rattle.std.specs.Float.Ieee.{to_bits}
use Rattle.image.specs.Layout.{image_in, image_of}
use Rattle.image.specs.Loaded.{too_short}
use Rattle.config_k.specs.Tables.{k_tables}
use Rattle.ledger.specs.Answers.{Answer}
use Rattle.ports.specs.declared.Sending.{Sending}
use Rattle.settle.specs.declared.Verdict.{Verdict}
use Rattle.settle.specs.declared.Verdict.TheVariants.{Drop, Sent}
use Rattle.settle.specs.Note.{counts_at}
use Rattle.tile.specs.declared.shares.Tile.TheVariants.{NoFrames, Shares}
use Rattle.tile.specs.Tiles.{Asked}
use Rattle.flat_answers.specs.declared.FlatVerdict.{FlatVerdict}
use Rattle.flat_answers.specs.declared.FlatTile.{FlatTile}
use Rattle.nights.specs.Nights.{Heard, only, Said, verdict, answer}

-- a buffer with room, and configuration K's image in it
pub record HoldsK (buffer : List ℕ) : Type 0 where
  pub room : too_short buffer ≡ false
  pub image : image_in buffer ≡ image_of k_tables

-- "sent 30 vlan 1 prio 0 tags 0 queues 0 0 0 0 0"
abbrev pub sent_of_k : Sending
sent_of_k =
    record { ports = 30; vlan = 1; priority = 0; tags = 0; queue0 = 0; queue1 = 0; queue2 = 0; queue3 = 0; queue4 = 0 }

-- "tile P frames F drops D share S octets O": the counts in the row, and a tile that shows these bits
pub record Line {Tiles : Type 0} (Shows : ℕ → ℕ → Tiles → Type 0) (z : List ℕ) (tile : ℕ → Tiles) (port frames drops share octets : ℕ) : Type 0 where
  pub counted : (counts_at z port).frames ≡ frames
  pub lost : (counts_at z port).drops ≡ drops
  pub shares : Shows share octets (tile port)

-- document 01's lines behind "config loaded", by the form in which the entries give a sent frame, a drop, what was done, two shares and no frames:
-- K has no entry of 12, so that no frame has a replica: the fresh ledger; "frame 1 sent 30 ..", "frame 2 drop 11", "release 3 ok", "frame 4 drop 1"; the five tiles
pub record Output {Verdicts Answers Tiles : Type 0} (sent : Verdicts) (drop : ℕ → Verdicts) (done : Answers) (Shows : ℕ → ℕ → Tiles → Type 0) (no_frames : Tiles)
    (first : Answers) (said : List (Said Verdicts Answers)) (z : List ℕ) (tile : ℕ → Tiles) : Type 0 where
  pub fresh : first ≡ done
  pub answers : said ≡ verdict sent ∷ verdict (drop 11) ∷ answer done ∷ verdict (drop 1) ∷ []
  pub tile0 : Line Shows z tile 0 2 1 0x3fe0000000000000 0x3fe0000000000000
  pub tile1 : Line Shows z tile 1 1 1 0x3ff0000000000000 0x3ff0000000000000
  pub tile2 : tile 2 ≡ no_frames
  pub tile3 : tile 3 ≡ no_frames
  pub tile4 : tile 4 ≡ no_frames

-- ---- at Rattle's entries
-- a tile with two shares of these bits
pub record ShowsBits (share octets : ℕ) (t : Asked) : Type 0 where
  pub frame_share : Float
  pub octet_share : Float
  pub whole : t ≡ Ok (Shares frame_share octet_share)
  pub share_bits : to_bits binary64 frame_share ≡ share
  pub octet_bits : to_bits binary64 octet_share ≡ octets

-- the lines of a night of them
abbrev pub OutputOf : Answer → List (Said (Heard Verdict) Answer) → List ℕ → (ℕ → Asked) → Type 0
OutputOf = Output (only (Sent sent_of_k)) (λ (n : ℕ). only (Drop n)) (Ok tt) ShowsBits (Ok NoFrames)

-- ---- at those for C and Rust, by kinds and numbers written out, so that no definition of theirs has a part in what is expected
-- "sent 30 vlan 1 prio 0 tags 0 queues 0 0 0 0 0", kind 2
abbrev pub flat_sent_of_k : FlatVerdict
flat_sent_of_k =
    record { kind = 2; number = 0; ports = 30; vlan = 1; priority = 0; tags = 0; queue0 = 0; queue1 = 0; queue2 = 0; queue3 = 0; queue4 = 0 }

-- "drop N", kind 1
abbrev pub flat_drop : ℕ → FlatVerdict
flat_drop n =
    record { kind = 1; number = n; ports = 0; vlan = 0; priority = 0; tags = 0; queue0 = 0; queue1 = 0; queue2 = 0; queue3 = 0; queue4 = 0 }

-- a tile of kind 3 with these bits
abbrev pub ShowsNumbers : ℕ → ℕ → FlatTile → Type 0
ShowsNumbers share octets t = t ≡ record { kind = 3; number = 0; share = share; octets = octets }

-- "no-frames", kind 2
abbrev pub flat_no_frames : FlatTile
flat_no_frames = record { kind = 2; number = 0; share = 0; octets = 0 }

-- the lines of a night of them; a release that is done, and a fresh ledger that is given, answer 0
abbrev pub OutputFlat : ℕ → List (Said (Heard FlatVerdict) ℕ) → List ℕ → (ℕ → FlatTile) → Type 0
OutputFlat = Output (only flat_sent_of_k) (λ (n : ℕ). only (flat_drop n)) 0 ShowsNumbers flat_no_frames
