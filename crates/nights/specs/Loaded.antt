-- What each entry says under an image that is not loaded, or is: never a judgement, or never 30.
use Rattle.std.specs.Prelude.{◌≡◌, List, ℕ, ◌<◌, Ok, Err}
use Rattle.image.specs.Layout.{image_in}
use Rattle.ledger.specs.Answers.{Answer}
use Rattle.row.specs.Fresh.{fresh_of, no_ledger, Freshened}
use Rattle.row.specs.Release.{Released}
use Rattle.settle.specs.declared.Verdict.TheVariants.{Refused}
use Rattle.judge.specs.declared.Judgement.{Judgement}
use Rattle.judge.specs.Judge.{Judges}
use Rattle.tile.specs.declared.shares.Tile.TheVariants.{NotLoaded}
use Rattle.tile.specs.Tiles.{Asked, Tiled}
use Rattle.flat_answers.specs.declared.FlatTile.{FlatTile}
use Rattle.flat_answers.specs.Answers.{shown}
use Rattle.flat_frames.specs.declared.FlatJudged.{FlatJudged}
use Rattle.flat_frames.specs.Frames.{FreshensFlat, flat_judged, JudgesFlat, ReleasesFlat, TilesFlat}

-- "An image that isn't loaded is never judged": whatever is asked under it, each entry says 30 and leaves the row and the places, and the tiles say not-loaded
pub record NeverJudged (buffer : List ℕ) : Type 0 where
  pub fresh : (r : Answer) (after : List ℕ) → Freshened buffer r after → (r ≡ Err 30) × (after ≡ no_ledger)
  pub frame : (g : List ℕ) (port time : ℕ) (bytes places : List ℕ) (r : Judgement) (after told : List ℕ) → Judges buffer g port time bytes places r after told
      → (r ≡ record { verdict = Refused 30; replicas = 0 }) × (after ≡ g) × (told ≡ places)
  pub release : (g : List ℕ) (partition : ℕ) (r : Answer) (after : List ℕ) → Released buffer g partition r after → (r ≡ Err 30) × (after ≡ g)
  pub tile : (g : List ℕ) (p : ℕ) (t : Asked) → p < 5 → Tiled buffer g p t → t ≡ Ok NotLoaded
  pub fresh_flat : (r : ℕ) (after : List ℕ) → FreshensFlat buffer r after → (r ≡ 30) × (after ≡ no_ledger)
  pub frame_flat : (g : List ℕ) (port time : ℕ) (bytes places : List ℕ) (r : FlatJudged) (after told : List ℕ) → JudgesFlat buffer g port time bytes places r after told
      → (r ≡ flat_judged (Refused 30) 0) × (after ≡ g) × (told ≡ places)
  pub release_flat : (g : List ℕ) (partition r : ℕ) (after : List ℕ) → ReleasesFlat buffer g partition r after → (r ≡ 30) × (after ≡ g)
  pub tile_flat : (g : List ℕ) (p : ℕ) (t : FlatTile) → p < 5 → TilesFlat buffer g p t → t ≡ shown 1 0 0 0

-- under an image that is loaded a fresh ledger is given, and no call is ever told 30, whatever its row, port, time, frame or partition
pub record NeverThirty (buffer : List ℕ) : Type 0 where
  pub fresh : (r : Answer) (after : List ℕ) → Freshened buffer r after → (r ≡ (Ok tt)) × (after ≡ fresh_of (image_in buffer))
  pub frame : (g : List ℕ) (port time : ℕ) (bytes places : List ℕ) (r : Judgement) (after told : List ℕ) → Judges buffer g port time bytes places r after told
      → r.verdict ≡ Refused 30
      → ⊥
  pub release : (g : List ℕ) (partition : ℕ) (r : Answer) (after : List ℕ) → Released buffer g partition r after → r ≡ Err 30 → ⊥
  pub tile : (g : List ℕ) (p : ℕ) (t : Asked) → Tiled buffer g p t → (t ≡ Ok NotLoaded → ⊥) × (t ≡ Err 30 → ⊥)
  pub fresh_flat : (r : ℕ) (after : List ℕ) → FreshensFlat buffer r after → (r ≡ 0) × (after ≡ fresh_of (image_in buffer))
  pub frame_flat : (g : List ℕ) (port time : ℕ) (bytes places : List ℕ) (r : FlatJudged) (after told : List ℕ) → JudgesFlat buffer g port time bytes places r after told
      → r.verdict.kind ≡ 0
      → r.verdict.number ≡ 30
      → ⊥
  pub release_flat : (g : List ℕ) (partition r : ℕ) (after : List ℕ) → ReleasesFlat buffer g partition r after → r ≡ 30 → ⊥
  pub tile_flat : (g : List ℕ) (p : ℕ) (t : FlatTile) → TilesFlat buffer g p t → (t.kind ≡ 1 → ⊥) × (t.number ≡ 30 → ⊥)
