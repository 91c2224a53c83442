-- What the calls for frames answer and leave, the ledger being the row itself.
use Rattle.std.specs.Prelude.{◌≡◌, List, ℕ, length}
use Rattle.ledger.specs.Range.{unloaded}
use Rattle.row.specs.Fresh.{freshened}
use Rattle.row.specs.Release.{release_refusal, released}
use Rattle.settle.specs.declared.Verdict.{Verdict}
use Rattle.places.specs.Places.{laid_over}
use Rattle.judge.specs.Judge.{call_of}
use Rattle.tile.specs.Tiles.{asked_of}
use Rattle.flat_answers.specs.declared.FlatTile.{FlatTile}
use Rattle.flat_answers.specs.Answers.{flat_verdict, flat_tile}
use Rattle.flat_frames.specs.declared.FlatJudged.{FlatJudged}

-- a fresh ledger: the refusal's number, 0 for none, and the row that it fills
pub record FreshensFlat (buffer : List ℕ) (r : ℕ) (after : List ℕ) : Type 0 where
  pub number : r ≡ unloaded buffer
  pub row : after ≡ freshened buffer

-- a frame: the verdict's numbers and how many replicas it has
abbrev pub flat_judged : Verdict → ℕ → FlatJudged
flat_judged v n = record { verdict = flat_verdict v; replicas = n }

-- the row, and the replicas' verdicts in the first places
pub record JudgesFlat (buffer g : List ℕ) (port time : ℕ) (frame places : List ℕ) (r : FlatJudged) (after told : List ℕ) : Type 0 where
  pub answer : r ≡ flat_judged (call_of buffer g port time frame).verdict (length (call_of buffer g port time frame).replicas)
  pub row : after ≡ (call_of buffer g port time frame).row
  pub laid : told ≡ laid_over (call_of buffer g port time frame).replicas places

-- a release: the refusal's number, 0 for none, and the row
pub record ReleasesFlat (buffer g : List ℕ) (partition r : ℕ) (after : List ℕ) : Type 0 where
  pub number : r ≡ release_refusal buffer g partition
  pub row : after ≡ released buffer g partition

-- a tile: its numbers; the row is only read
pub record TilesFlat (buffer g : List ℕ) (port : ℕ) (r : FlatTile) : Type 0 where
  pub tile : r ≡ flat_tile (asked_of buffer g port)
