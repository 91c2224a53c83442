-- The proved table of document 01: its eleven rows as one statement, on an image's entries, on streams, on the rules' answer and on verdicts.
use Rattle.std.specs.Prelude.{◌≡◌, List, [], ◌∷◌, ℕ, ◌-◌, length}
use Rattle.laws.specs.Scan.{total}
use Rattle.crc.specs.Crc.{checksum}
use Rattle.image.specs.Layout.{image_in, entry_of}
use Rattle.image.specs.declared.tables.Table.TheVariants.{VlanLookup}
use Rattle.fields.specs.Fields.{vmemb_port, vlan_bc, tag_port, vlanid, smax, rate, part_spc}
use Rattle.fields.specs.Packed.{Packed}
use Rattle.stream.specs.Header.{device, id_of, length_of}
use Rattle.stream.specs.Paper.{refused, passed, none, framed}
use Rattle.stream.specs.Order.{Piece, streamed, after}
use Rattle.rules.specs.Rules.{ruled}
use Rattle.ledger.specs.Row.{credit, since, cell}
use Rattle.frame.specs.Bytes.{octets_of}
use Rattle.settle.specs.declared.Verdict.TheVariants.{Drop}
use Rattle.judge.specs.declared.Judgement.{Judgement}
use Rattle.judge.specs.Judge.{Judges}
use Rattle.exactly.specs.First.{NoneBefore}
use Rattle.exactly.specs.Rules.{rules_page}
use Rattle.exactly.specs.Steps.{meter_for, frame_page}

-- entry i of 07 holds these four fields and no other bit
pub record VlanEntry (image : List ℕ) (i members broadcasts tags vlan : ℕ) : Type 0 where
  pub members_are : vmemb_port image i ≡ members
  pub broadcasts_are : vlan_bc image i ≡ broadcasts
  pub tags_are : tag_port image i ≡ tags
  pub vlan_is : vlanid image i ≡ vlan
  pub nothing_else : Packed (entry_of image VlanLookup i) members broadcasts tags vlan

-- the meter of a frame of L octets has this SMAX and RATE, this old credit, and this time elapsed
pub record Meter (image g : List ℕ) (port time : ℕ) (frame : List ℕ) (most gain old elapsed octets : ℕ) : Type 0 where
  pub smax_is : smax image (meter_for image port frame) ≡ most
  pub rate_is : rate image (meter_for image port frame) ≡ gain
  pub credit_is : cell g credit (meter_for image port frame) ≡ old
  pub elapsed_is : time - cell g since (meter_for image port frame) ≡ elapsed
  pub octets_are : octets_of frame ≡ octets

-- a frame's call, whatever answer r its promise permits, that no clause of its page before number n refuses or drops
pub record Reaches (buffer g : List ℕ) (port time : ℕ) (frame places : List ℕ) (n : ℕ) (r : Judgement) (after told : List ℕ) : Type 0 where
  pub judged : Judges buffer g port time frame places r after told
  pub past : NoneBefore n (frame_page buffer g port time frame)

-- a block of 07: its ID, its length told, and as many words
pub record VlanBlock (p : Piece) (n : ℕ) : Type 0 where
  pub id_is : id_of p.first ≡ 0x07
  pub length_is : length_of p.second ≡ n
  pub words_are : length p.words ≡ n

-- "One statement proves these eleven from the definitions"
pub record ProvedTable : Type 0 where
  -- (a) VLAN 1, all members, all VLAN_BC, no tags: words 08000000, 003FF000
  pub a : (image : List ℕ) (i : ℕ) → entry_of image VlanLookup i ≡ 0x08000000 ∷ 0x003FF000 ∷ [] → VlanEntry image i 31 31 0 1
  -- (b) VLANID 4095 alone: F8000000, 0000007F
  pub b : (image : List ℕ) (i : ℕ) → entry_of image VlanLookup i ≡ 0xF8000000 ∷ 0x0000007F ∷ [] → VlanEntry image i 0 0 0 4095
  -- (c) 07 length 3: 5
  pub c : (first second : ℕ) (rest : List ℕ) → id_of first ≡ 0x07 → length_of second ≡ 3
      → framed (device ∷ first ∷ second ∷ checksum (first ∷ second ∷ []) ∷ rest) ≡ refused 5
  -- (d) 8192: fits
  pub d : (p : Piece) (e0 e1 : ℕ) → VlanBlock p 8192 → length_of e1 ≡ 0 → framed (streamed (p ∷ []) e0 e1) ≡ passed (after none (p ∷ []))
  -- (e) 8194: 6
  pub e : (first second : ℕ) (rest : List ℕ) → id_of first ≡ 0x07 → length_of second ≡ 8194
      → framed (device ∷ first ∷ second ∷ checksum (first ∷ second ∷ []) ∷ rest) ≡ refused 6
  -- (f) partition sum 929 passes
  pub f : (image : List ℕ) → total 8 (λ j. part_spc image j) ≡ 929 → ruled image ≡ 24 → ⊥
  -- (g) 930: 24
  pub g : (image : List ℕ) → NoneBefore 24 (rules_page image) → total 8 (λ j. part_spc image j) ≡ 930 → ruled image ≡ 24
  -- (h) credit 0, SMAX 64, RATE 64, L 64: short after 511 µs
  pub h : (buffer row : List ℕ) (port time : ℕ) (frame places : List ℕ) (r : Judgement) (left told : List ℕ) → Reaches buffer row port time frame places 9 r left told
      → Meter (image_in buffer) row port time frame 64 64 0 511 64
      → r.verdict ≡ Drop 9
  -- (i) passes after 512
  pub i : (buffer row : List ℕ) (port time : ℕ) (frame places : List ℕ) (r : Judgement) (left told : List ℕ) → Reaches buffer row port time frame places 9 r left told
      → Meter (image_in buffer) row port time frame 64 64 0 512 64
      → r.verdict ≡ Drop 9
      → ⊥
  -- (j) SMAX 63 never passes L 64
  pub j : (buffer row : List ℕ) (port time : ℕ) (frame places : List ℕ) (r : Judgement) (left told : List ℕ) (gain old elapsed : ℕ)
      → Reaches buffer row port time frame places 9 r left told
      → Meter (image_in buffer) row port time frame 63 gain old elapsed 64
      → r.verdict ≡ Drop 9
  -- (k) L 63 drops
  pub k : (buffer row : List ℕ) (port time : ℕ) (frame places : List ℕ) (r : Judgement) (left told : List ℕ) → Reaches buffer row port time frame places 1 r left told
      → octets_of frame ≡ 63
      → r.verdict ≡ Drop 1
  -- 64 goes on
  pub k_on : (buffer row : List ℕ) (port time : ℕ) (frame places : List ℕ) (r : Judgement) (left told : List ℕ) → Reaches buffer row port time frame places 1 r left told
      → octets_of frame ≡ 64
      → r.verdict ≡ Drop 1
      → ⊥
