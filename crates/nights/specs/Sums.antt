-- Plain sums over a run's events and what each was answered: a port's frames, drops, octets and dropped octets.
use Rattle.std.specs.Prelude.{◌≡◌, ◌↔◌, false, cond, List, [], ◌∷◌, map, ℕ, ◌+◌, ◌%◌, eqb, pos, Float, length, get_or, Ok}
use Rattle.std.specs.Float.{binary64}
use Rattle.std.specs.Float.Ieee.{div, of_int, is_nan, to_bits}
use Rattle.spend.specs.declared.Counts.{Counts}
use Rattle.settle.specs.declared.Verdict.{Verdict}
use Rattle.settle.specs.declared.Verdict.TheVariants.{Refused, Drop, Sent}
use Rattle.tile.specs.declared.shares.Tile.{Tile}
use Rattle.tile.specs.declared.shares.Tile.TheVariants.{NoFrames, Shares}
use Rattle.tile.specs.Tiles.{Asked, tile_of}
use Rattle.kept.specs.History.{Event, frame, release}
use Rattle.flat_answers.specs.declared.FlatVerdict.{FlatVerdict}
use Rattle.flat_answers.specs.declared.FlatTile.{FlatTile}
use Rattle.flat_answers.specs.Answers.{flat_shown, shown}
use Rattle.nights.specs.Nights.{Heard, Said, verdict, answer}

-- what became of a frame
pub data Kind : Type 0 where
  refused : Kind
  dropped : Kind
  sent : Kind

-- a verdict says it by its case
abbrev pub kind_of : Verdict → Kind
kind_of (Refused n) = refused
kind_of (Drop n) = dropped
kind_of (Sent s) = sent

-- for C and Rust by the number of its kind: 0 refused, 1 dropped, 2 sent
abbrev pub kind_flat : FlatVerdict → Kind
kind_flat r = cond (eqb r.kind 0) refused (cond (eqb r.kind 1) dropped sent)

-- of a call it is what became of the frame itself: "tiles count originals only"
abbrev pub own_kind : {Verdicts : Type 0} → (Verdicts → Kind) → Heard Verdicts → Kind
own_kind kind h = kind h.own

-- a replica's by the first of its ten numbers, "kind + 2^32 × number"
abbrev pub kind_ten : List ℕ → Kind
kind_ten ten = cond (eqb (get_or ten 0 0 % 4294967296) 0) refused (cond (eqb (get_or ten 0 0 % 4294967296) 1) dropped sent)

-- of the frame and its replicas, in order
abbrev pub kinds_of : {Verdicts : Type 0} → (Verdicts → Kind) → Heard Verdicts → List Kind
kinds_of kind h = kind h.own ∷ map kind_ten h.replicas

-- a sum over events and what each was answered
abbrev pub sum_over : {Verdicts Answers : Type 0} → (Event → Said Verdicts Answers → ℕ) → List Event → List (Said Verdicts Answers) → ℕ
sum_over each [] said = 0
sum_over each (e ∷ es) [] = 0
sum_over each (e ∷ es) (s ∷ said) = each e s + sum_over each es said

-- what an event counts for port p: a frame on p by what became of it and its bytes, all else nothing
abbrev pub at_port : {Verdicts Answers : Type 0} → (Verdicts → Kind) → ℕ → (Kind → List ℕ → ℕ) → Event → Said Verdicts Answers → ℕ
at_port kind p each (frame port time bytes) (verdict v) = cond (eqb p port) (each (kind v) bytes) 0
at_port kind p each (frame port time bytes) (answer a) = 0
at_port kind p each (release partition) said = 0

-- a frame that was dropped or sent counts 1
abbrev pub frame_in : Kind → List ℕ → ℕ
frame_in refused bytes = 0
frame_in dropped bytes = 1
frame_in sent bytes = 1

-- a drop counts 1
abbrev pub drop_in : Kind → List ℕ → ℕ
drop_in refused bytes = 0
drop_in dropped bytes = 1
drop_in sent bytes = 0

-- "sums of L", and "L is its bytes plus 4"
abbrev pub octets_in : Kind → List ℕ → ℕ
octets_in refused bytes = 0
octets_in dropped bytes = length bytes + 4
octets_in sent bytes = length bytes + 4

-- of drops only
abbrev pub dropped_in : Kind → List ℕ → ℕ
dropped_in refused bytes = 0
dropped_in dropped bytes = length bytes + 4
dropped_in sent bytes = 0

-- port p's frames, drops, octets and dropped octets over a run
abbrev pub sums_of : {Verdicts Answers : Type 0} → (Verdicts → Kind) → ℕ → List Event → List (Said Verdicts Answers) → Counts
sums_of kind p es said =
    record {
      frames = sum_over (at_port kind p frame_in) es said;
      drops = sum_over (at_port kind p drop_in) es said;
      octets = sum_over (at_port kind p octets_in) es said;
      dropped = sum_over (at_port kind p dropped_in) es said;
    }

-- the tile of four counts
abbrev pub tile_from : Counts → Tile
tile_from c = tile_of c.frames c.drops c.octets c.dropped

-- "one division": part as f64 over whole as f64
abbrev pub divided : ℕ → ℕ → Float
divided part whole = div binary64 (of_int binary64 (pos part)) (of_int binary64 (pos whole))

-- a port's tile t by its counts c
pub record Shows (c : Counts) (t : Asked) : Type 0 where
  -- it is their tile, and no refusal
  pub tile : t ≡ Ok (tile_from c)
  -- "A port with no frames shows no share", and no other
  pub no_frames : (t ≡ Ok NoFrames) ↔ (c.frames ≡ 0)
  -- "The frame share is drops as f64 over frames as f64, one division; the octet share likewise"
  pub shares : (c.frames ≡ 0 → ⊥) → t ≡ Ok (Shares (divided c.drops c.frames) (divided c.dropped c.octets))
  -- both are numbers
  pub real : (c.frames ≡ 0 → ⊥) → (is_nan (divided c.drops c.frames) ≡ false) × (is_nan (divided c.dropped c.octets) ≡ false)
  -- "With frames and no drops both are +0"
  pub perfect : (c.frames ≡ 0 → ⊥) → c.drops ≡ 0 → (x y : Float) × (t ≡ Ok (Shares x y)) × (to_bits binary64 x ≡ 0) × (to_bits binary64 y ≡ 0)

-- and at the entry for C and Rust: kind 2 for no-frames, kind 3 with "the exact bits of that division"
pub record ShowsFlat (c : Counts) (t : FlatTile) : Type 0 where
  pub tile : t ≡ flat_shown (tile_from c)
  pub no_frames : (t.kind ≡ 2) ↔ (c.frames ≡ 0)
  pub shares : (c.frames ≡ 0 → ⊥) → t ≡ shown 3 0 (to_bits binary64 (divided c.drops c.frames)) (to_bits binary64 (divided c.dropped c.octets))
  pub real : (c.frames ≡ 0 → ⊥) → (is_nan (divided c.drops c.frames) ≡ false) × (is_nan (divided c.dropped c.octets) ≡ false)
  pub perfect : (c.frames ≡ 0 → ⊥) → c.drops ≡ 0 → t ≡ shown 3 0 0 0
