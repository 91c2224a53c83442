-- Each entry's outcome is one: any two outcomes that its promise permits are equal, the answer and everything that was lent. A theorem for each entry,
-- by its name.
use Rattle.std.specs.Prelude.{◌≡◌, List, ℕ}
use Rattle.stream.specs.declared.Answer.{Answer}
use Rattle.stream.specs.declared.Load.{Load}
use Rattle.stream.specs.declared.states.Wrote.{Wrote}
use Rattle.stream.specs.Leaves.{Writes, EndsWords, EndsBytes}
use Rattle.stream.specs.LeavesLaws as leaves
use Rattle.ledger.specs.Answers as ledger
use Rattle.row.specs.Fresh.{Freshened}
use Rattle.row.specs.FreshLaws as fresh
use Rattle.row.specs.Release.{Released}
use Rattle.row.specs.Proved as release
use Rattle.judge.specs.declared.Judgement.{Judgement}
use Rattle.judge.specs.Judge.{Judges}
use Rattle.judge.specs.Laws as judge
use Rattle.tile.specs.Tiles.{Asked, Tiled}
use Rattle.tile.specs.TilesLaws as tile
use Rattle.lent.specs.declared.Event.{Event}
use Rattle.lent.specs.declared.Told.{Told}
use Rattle.lent.specs.Brings.{Brings}
use Rattle.lent.proofs.BringsLaws as lent
use Rattle.records.specs.declared.Record.{Record}
use Rattle.records.specs.Answer.{Reads}
use Rattle.records.proofs.Promises as records
use Rattle.flat_answers.specs.declared.FlatTile.{FlatTile}
use Rattle.flat_lists.specs.declared.FlatRecord.{FlatRecord}
use Rattle.flat_numbers.specs.Flat.{FreshLoad}
use Rattle.flat_numbers.specs.FlatLaws as numbers
use Rattle.flat_loads.specs.Calls.{WritesFlat, LoadsWords, LoadsBytes}
use Rattle.flat_loads.specs.CallsLaws as loads
use Rattle.flat_frames.specs.declared.FlatJudged.{FlatJudged}
use Rattle.flat_frames.specs.Frames.{FreshensFlat, JudgesFlat, ReleasesFlat, TilesFlat}
use Rattle.flat_frames.specs.FramesLaws as frames
use Rattle.flat_lists.specs.Lists.{RecordsFlat}
use Rattle.flat_lists.specs.ListsLaws as lists

-- ---- the entries in Rattle

-- `loader::write` and `quick::write`, which have one promise: the answer, the load state and the whole buffer
pub write_once : (load : Load) (buffer words : List ℕ) (r s : Wrote) (a b : List ℕ) → Writes load buffer words r a → Writes load buffer words s b → (r ≡ s) × (a ≡ b)
write_once = leaves.one_write

-- `whole::load_words`: the answer and the whole buffer
pub load_words_once : (buffer words : List ℕ) (r s : Answer) (a b : List ℕ) → EndsWords buffer words r a → EndsWords buffer words s b → (r ≡ s) × (a ≡ b)
load_words_once = leaves.one_load_of_words

-- `whole::load_bytes`
pub load_bytes_once : (buffer bytes : List ℕ) (r s : Answer) (a b : List ℕ) → EndsBytes buffer bytes r a → EndsBytes buffer bytes s b → (r ≡ s) × (a ≡ b)
load_bytes_once = leaves.one_load_of_bytes

-- `row::fresh::fresh_ledger`: the answer and the whole row
pub fresh_ledger_once : (buffer : List ℕ) (r s : ledger.Answer) (a b : List ℕ) → Freshened buffer r a → Freshened buffer s b → (r ≡ s) × (a ≡ b)
fresh_ledger_once = fresh.one_fresh

-- `row::release::release`
pub release_once : (buffer g : List ℕ) (partition : ℕ) (r s : ledger.Answer) (a b : List ℕ) → Released buffer g partition r a → Released buffer g partition s b
    → (r ≡ s) × (a ≡ b)
release_once = release.one_release

-- `judge::judge`: the verdict with the number of replicas, the row, and the lent places
pub judge_once : (buffer g : List ℕ) (port time : ℕ) (frame places : List ℕ) (r s : Judgement) (a b t u : List ℕ) → Judges buffer g port time frame places r a t
    → Judges buffer g port time frame places s b u
    → (r ≡ s) × (a ≡ b) × (t ≡ u)
judge_once = judge.one_judgement

-- `tile::tile`: the answer; the row is only read
pub tile_once : (buffer g : List ℕ) (port : ℕ) (r s : Asked) → Tiled buffer g port r → Tiled buffer g port s → r ≡ s
tile_once = tile.one_answer

-- `lent::step`, `lent::bring` and `lent::bring_once`, which have one promise: the answer, the whole row and the lent places
pub bring_once : (buffer g : List ℕ) (event : Event) (frame places : List ℕ) (r s : Told) (a b t u : List ℕ) → Brings buffer g event frame places r a t
    → Brings buffer g event frame places s b u
    → (r ≡ s) × (a ≡ b) × (t ≡ u)
bring_once = lent.one_told

-- `reader::next` and `reader::record_from`, which have one promise: the answer; the list is only read
pub record_once : (list : List ℕ) (at : ℕ) (r s : Record) → Reads list at r → Reads list at s → r ≡ s
record_once = records.one_answer

-- ---- the entries for C and Rust: the answer's numbers, and all that was lent

-- `tailbow_fresh_load`
pub tailbow_fresh_load_once : (a b : List ℕ) → FreshLoad a → FreshLoad b → a ≡ b
tailbow_fresh_load_once = numbers.one_fresh_load

-- `tailbow_write`
pub tailbow_write_once : (numbers buffer words : List ℕ) (r s : ℕ) (a b k m : List ℕ) → WritesFlat numbers buffer words r a k → WritesFlat numbers buffer words s b m
    → (r ≡ s) × (a ≡ b) × (k ≡ m)
tailbow_write_once = loads.one_write

-- `tailbow_load_words`
pub tailbow_load_words_once : (buffer words : List ℕ) (r s : ℕ) (a b : List ℕ) → LoadsWords buffer words r a → LoadsWords buffer words s b → (r ≡ s) × (a ≡ b)
tailbow_load_words_once = loads.one_words

-- `tailbow_load_bytes`
pub tailbow_load_bytes_once : (buffer bytes : List ℕ) (r s : ℕ) (a b : List ℕ) → LoadsBytes buffer bytes r a → LoadsBytes buffer bytes s b → (r ≡ s) × (a ≡ b)
tailbow_load_bytes_once = loads.one_bytes

-- `tailbow_fresh_ledger`
pub tailbow_fresh_ledger_once : (buffer : List ℕ) (r s : ℕ) (a b : List ℕ) → FreshensFlat buffer r a → FreshensFlat buffer s b → (r ≡ s) × (a ≡ b)
tailbow_fresh_ledger_once = frames.one_fresh

-- `tailbow_judge`
pub tailbow_judge_once : (buffer g : List ℕ) (port time : ℕ) (frame places : List ℕ) (r s : FlatJudged) (a b t u : List ℕ) → JudgesFlat buffer g port time frame places r a t
    → JudgesFlat buffer g port time frame places s b u
    → (r ≡ s) × (a ≡ b) × (t ≡ u)
tailbow_judge_once = frames.one_judged

-- `tailbow_release`
pub tailbow_release_once : (buffer g : List ℕ) (partition r s : ℕ) (a b : List ℕ) → ReleasesFlat buffer g partition r a → ReleasesFlat buffer g partition s b
    → (r ≡ s) × (a ≡ b)
tailbow_release_once = frames.one_released

-- `tailbow_tile`
pub tailbow_tile_once : (buffer g : List ℕ) (port : ℕ) (r s : FlatTile) → TilesFlat buffer g port r → TilesFlat buffer g port s → r ≡ s
tailbow_tile_once = frames.one_tile

-- `tailbow_record_at`
pub tailbow_record_at_once : (list : List ℕ) (at : ℕ) (r s : FlatRecord) → RecordsFlat list at r → RecordsFlat list at s → r ≡ s
tailbow_record_at_once = lists.one_record
