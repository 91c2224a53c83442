-- A night: a fresh ledger, then frames and releases one after the other, then the tiles, each answered as its entry's promise permits.
use Rattle.std.specs.Prelude.{◌≡◌, List, [], ◌∷◌, map, ℕ, ◌<◌}
use Rattle.ledger.specs.Answers.{Answer}
use Rattle.ledger.specs.Range.{unloaded}
use Rattle.row.specs.Fresh.{freshened, Freshened}
use Rattle.row.specs.Release.{release_refusal, released, Released}
use Rattle.settle.specs.declared.Verdict.{Verdict}
use Rattle.places.specs.Places.{ten_of, heard}
use Rattle.judge.specs.Judge.{Called, call_of, Judges}
use Rattle.tile.specs.Tiles.{Asked, asked_of, Tiled}
use Rattle.kept.specs.History.{Event, frame, release, step}
use Rattle.flat_answers.specs.declared.FlatVerdict.{FlatVerdict}
use Rattle.flat_answers.specs.declared.FlatTile.{FlatTile}
use Rattle.flat_frames.specs.Frames.{FreshensFlat, JudgesFlat, ReleasesFlat, TilesFlat}

-- what a frame's call says: its own verdict, and its replicas' by the ten numbers in each of the first places
pub record Heard (Verdicts : Type 0) : Type 0 where
  pub own : Verdicts
  pub replicas : List (List ℕ)

-- a frame without replicas
abbrev pub only : {Verdicts : Type 0} → Verdicts → Heard Verdicts
only v = record { own = v; replicas = [] }

-- what an event was answered: a frame its verdict and its replicas', a release its answer
pub data Said (Verdicts Answers : Type 0) : Type 0 where
  verdict : Verdicts → Said Verdicts Answers
  answer : Answers → Said Verdicts Answers

-- "one sequence of frames and releases": from row g to row z, each call given the row that the one before left, each answered as its relation permits
pub data Run {Verdicts Answers : Type 0} (Judge : List ℕ → ℕ → ℕ → List ℕ → Verdicts → List ℕ → Type 0) (Release : List ℕ → ℕ → Answers → List ℕ → Type 0)
    : List ℕ → List Event → List (Said Verdicts Answers) → List ℕ → Type 0 where
  end : {g : List ℕ} → Run Judge Release g [] [] g
  judges : {g h z : List ℕ} {port time : ℕ} {bytes : List ℕ} {v : Verdicts} {es : List Event} {said : List (Said Verdicts Answers)} → Judge g port time bytes v h
      → Run Judge Release h es said z
      → Run Judge Release g (frame port time bytes ∷ es) (verdict v ∷ said) z
  releases : {g h z : List ℕ} {partition : ℕ} {a : Answers} {es : List Event} {said : List (Said Verdicts Answers)} → Release g partition a h
      → Run Judge Release h es said z
      → Run Judge Release g (release partition ∷ es) (answer a ∷ said) z

-- a whole night: the fresh ledger's answer and row, what each event was answered, the last row, and the five tiles
pub record Night {Verdicts Answers Tiles : Type 0} (Fresh : Answers → List ℕ → Type 0) (Judge : List ℕ → ℕ → ℕ → List ℕ → Verdicts → List ℕ → Type 0)
    (Release : List ℕ → ℕ → Answers → List ℕ → Type 0) (Tile : List ℕ → ℕ → Tiles → Type 0) (es : List Event) (first : Answers) (g : List ℕ) (said : List (Said Verdicts Answers)) (z : List ℕ)
    (tile : ℕ → Tiles) : Type 0 where
  pub fresh : Fresh first g
  pub run : Run Judge Release g es said z
  pub tiles : (p : ℕ) → p < 5 → Tile z p (tile p)

-- ---- at Rattle's entries
-- a frame's call, whatever stands in the places that are lent to it: what it answers, and what the first of them hold afterwards
pub record Hears (buffer g : List ℕ) (port time : ℕ) (bytes : List ℕ) (h : Heard Verdict) (after : List ℕ) : Type 0 where
  pub places : List ℕ
  pub told : List ℕ
  pub count : ℕ
  pub call : Judges buffer g port time bytes places (record { verdict = h.own; replicas = count }) after told
  pub first : h.replicas ≡ heard count told

-- a run of them
abbrev pub RunOf : List ℕ → List ℕ → List Event → List (Said (Heard Verdict) Answer) → List ℕ → Type 0
RunOf buffer = Run (Hears buffer) (Released buffer)

-- a night of them
abbrev pub NightOf : List ℕ → List Event → Answer → List ℕ → List (Said (Heard Verdict) Answer) → List ℕ → (ℕ → Asked) → Type 0
NightOf buffer = Night (Freshened buffer) (Hears buffer) (Released buffer) (Tiled buffer)

-- ---- at those for C and Rust
-- a frame's call
pub record HearsFlat (buffer g : List ℕ) (port time : ℕ) (bytes : List ℕ) (h : Heard FlatVerdict) (after : List ℕ) : Type 0 where
  pub places : List ℕ
  pub told : List ℕ
  pub count : ℕ
  pub call : JudgesFlat buffer g port time bytes places (record { verdict = h.own; replicas = count }) after told
  pub first : h.replicas ≡ heard count told

-- a run of them
abbrev pub RunFlat : List ℕ → List ℕ → List Event → List (Said (Heard FlatVerdict) ℕ) → List ℕ → Type 0
RunFlat buffer = Run (HearsFlat buffer) (ReleasesFlat buffer)

-- a night of them
abbrev pub NightFlat : List ℕ → List Event → ℕ → List ℕ → List (Said (Heard FlatVerdict) ℕ) → List ℕ → (ℕ → FlatTile) → Type 0
NightFlat buffer = Night (FreshensFlat buffer) (HearsFlat buffer) (ReleasesFlat buffer) (TilesFlat buffer)

-- what the definitions say of a frame with its replicas, its verdict in the entries' own form
abbrev pub heard_of : {Verdicts : Type 0} → (Verdict → Verdicts) → Called → Heard Verdicts
heard_of as_verdict c = record { own = as_verdict c.verdict; replicas = map ten_of c.replicas }

-- what the definitions say to an event, a frame's call and a release's refusal each in the entries' own form
abbrev pub defined_answer : {Verdicts Answers : Type 0} → (Called → Verdicts) → (ℕ → Answers) → List ℕ → List ℕ → Event → Said Verdicts Answers
defined_answer as_verdict as_answer buffer g (frame port time bytes) = verdict (as_verdict (call_of buffer g port time bytes))
defined_answer as_verdict as_answer buffer g (release partition) = answer (as_answer (release_refusal buffer g partition))

-- and to a history from row g on
abbrev pub defined_answers : {Verdicts Answers : Type 0} → (Called → Verdicts) → (ℕ → Answers) → List ℕ → List ℕ → List Event → List (Said Verdicts Answers)
defined_answers as_verdict as_answer buffer g [] = []
defined_answers as_verdict as_answer buffer g (e ∷ es) = defined_answer as_verdict as_answer buffer g e ∷ defined_answers as_verdict as_answer buffer (step buffer g e) es

-- entries that say what the definitions say: a frame's call, a refusal's number and a tile, each in the entries' own form, and the row
pub record AsDefined {Verdicts Answers Tiles : Type 0} (as_verdict : Called → Verdicts) (as_answer : ℕ → Answers) (as_tile : Asked → Tiles) (buffer : List ℕ)
    (Fresh : Answers → List ℕ → Type 0) (Judge : List ℕ → ℕ → ℕ → List ℕ → Verdicts → List ℕ → Type 0) (Release : List ℕ → ℕ → Answers → List ℕ → Type 0)
    (Tile : List ℕ → ℕ → Tiles → Type 0) : Type 0 where
  pub fresh : (a : Answers) (g : List ℕ) → Fresh a g → (a ≡ as_answer (unloaded buffer)) × (g ≡ freshened buffer)
  pub judge : (g : List ℕ) (port time : ℕ) (bytes : List ℕ) (v : Verdicts) (after : List ℕ) → Judge g port time bytes v after
      → (v ≡ as_verdict (call_of buffer g port time bytes)) × (after ≡ (call_of buffer g port time bytes).row)
  pub release : (g : List ℕ) (partition : ℕ) (a : Answers) (after : List ℕ) → Release g partition a after
      → (a ≡ as_answer (release_refusal buffer g partition)) × (after ≡ released buffer g partition)
  pub tile : (g : List ℕ) (p : ℕ) (t : Tiles) → Tile g p t → t ≡ as_tile (asked_of buffer g p)

-- two nights that nobody can tell apart
pub record SameNight {Verdicts Answers Tiles : Type 0} (first other : Answers) (g h : List ℕ) (said told : List (Said Verdicts Answers)) (z y : List ℕ) (tile shown : ℕ → Tiles) : Type 0 where
  pub fresh : first ≡ other
  pub begun : g ≡ h
  pub answers : said ≡ told
  pub row : z ≡ y
  pub tiles : (p : ℕ) → p < 5 → tile p ≡ shown p

-- two buffers under which any two permitted nights of the same frames and releases are the same: "the same verdicts and tiles under both", replicas included
pub record Alike (a b : List ℕ) : Type 0 where
  pub same : (es : List Event) {first second : Answer} {g h : List ℕ} {said told : List (Said (Heard Verdict) Answer)} {z y : List ℕ} {tile shown : ℕ → Asked}
      → NightOf a es first g said z tile
      → NightOf b es second h told y shown
      → SameNight first second g h said told z y tile shown

-- and at the entries for C and Rust
pub record AlikeFlat (a b : List ℕ) : Type 0 where
  pub same : (es : List Event) {first second : ℕ} {g h : List ℕ} {said told : List (Said (Heard FlatVerdict) ℕ)} {z y : List ℕ} {tile shown : ℕ → FlatTile}
      → NightFlat a es first g said z tile
      → NightFlat b es second h told y shown
      → SameNight first second g h said told z y tile shown
