-- A tile's promise: from its one equation; that it permits one answer; that what it says tells every case apart; and that a buffer's rest has no part in it.
use Rattle.std.specs.Prelude.{◌≡◌, ℕ, Bool, cond, List, nat_lt, refl, Ok, Err}
use Rattle.std.proofs.Common.{sym, ◌∙◌, ap}
use Rattle.laws.specs.Says.{Says}
use Rattle.laws.specs.SaysLaws.{other_kind}
use Rattle.image.specs.Layout.{image_in}
use Rattle.image.specs.Loaded.{too_short, not_loaded}
use Rattle.ledger.specs.Range.{out_of_range}
use Rattle.tile.specs.declared.shares.Tile.TheVariants.{NotLoaded, NoFrames, Shares}
use Rattle.tile.specs.Tiles.{Asked, tile_at, asked_of, said_of, Tiled}

pub tiled : (buffer g : List ℕ) (port : ℕ) (r : Asked) → r ≡ asked_of buffer g port → Tiled buffer g port r
tiled buffer g port r e = record { whole = e; said = ap said_of e }

-- the promise permits one answer
pub one_answer : (buffer g : List ℕ) (port : ℕ) (r s : Asked) → Tiled buffer g port r → Tiled buffer g port s → r ≡ s
one_answer buffer g port r s a b = a.whole ∙ sym b.whole

-- not-loaded, no-frames, shares and a refusal are told apart
pub not_loaded_apart : (a : Asked) → said_of a ≡ said_of (Ok NotLoaded) → a ≡ Ok NotLoaded
not_loaded_apart (Err n) e = absurd (other_kind e refl)
not_loaded_apart (Ok NotLoaded) e = refl
not_loaded_apart (Ok NoFrames) e = absurd (other_kind e refl)
not_loaded_apart (Ok (Shares x y)) e = absurd (other_kind e refl)

pub no_frames_apart : (a : Asked) → said_of a ≡ said_of (Ok NoFrames) → a ≡ Ok NoFrames
no_frames_apart (Err n) e = absurd (other_kind e refl)
no_frames_apart (Ok NotLoaded) e = absurd (other_kind e refl)
no_frames_apart (Ok NoFrames) e = refl
no_frames_apart (Ok (Shares x y)) e = absurd (other_kind e refl)

pub refused_apart : (a : Asked) (n : ℕ) → said_of a ≡ said_of (Err n) → a ≡ Err n
refused_apart (Err m) n e = ap (λ (s : Says). Err s.number) e
refused_apart (Ok NotLoaded) n e = absurd (other_kind e refl)
refused_apart (Ok NoFrames) n e = absurd (other_kind e refl)
refused_apart (Ok (Shares x y)) n e = absurd (other_kind e refl)

-- a buffer's rest has no part in it
pub same_tile : (a b : List ℕ) → too_short a ≡ too_short b → image_in a ≡ image_in b → (g : List ℕ) (port : ℕ) → asked_of a g port ≡ asked_of b g port
unfolding asked_of
same_tile a b long image g port =
    ap (λ (t : Bool). told t (image_in a)) long ∙ ap (told (too_short b)) image
  where
    told : Bool → List ℕ → Asked
    told t i =
        cond t (Err 31) (cond (nat_lt 4 port) (Err 33) (cond (not_loaded i) (Ok NotLoaded) (cond (out_of_range i g) (Err 39) (Ok (tile_at g port)))))
