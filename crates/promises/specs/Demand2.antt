-- Demand 2. "Its loading answers, tables, verdicts, partitions, meters and tiles are those that source document 001 and document 01 define. A stream is
-- refused exactly when a rule there is broken, and with the first one broken. A port with no frames shows no share."
use Rattle.std.specs.Prelude.{◌≡◌, false, List, ℕ, ◌+◌, ◌*◌, ◌<◌, ◌≤◌, length, take, drop, Ok}
use Rattle.image.specs.Rows.{size_of}
use Rattle.image.specs.Layout.{image_in, image_of, list_of, count_of, entry_of}
use Rattle.image.specs.Loaded.{too_short}
use Rattle.image.specs.declared.tables.Table.{Table}
use Rattle.fields.specs.Fields.{part_spc}
use Rattle.stream.specs.declared.Answer.{Answer}
use Rattle.stream.specs.declared.Answer.TheVariants.{Loaded}
use Rattle.stream.specs.Paper.{passed, framed, numbered}
use Rattle.stream.specs.Leaves.{EndsWords, EndsBytes}
use Rattle.ledger.specs.Answers as ledger
use Rattle.ledger.specs.Row.{units, credit, many, cell_count, cell}
use Rattle.ledger.specs.Range.{out_of_range}
use Rattle.row.specs.Fresh.{Freshened}
use Rattle.row.specs.Release.{Released}
use Rattle.settle.specs.declared.Verdict.{Verdict}
use Rattle.judge.specs.declared.Judgement.{Judgement}
use Rattle.judge.specs.Judge.{Judges}
use Rattle.tile.specs.Tiles.{Asked}
use Rattle.kept.specs.History.{Event}
use Rattle.records.specs.OfK.{list_of_k}
use Rattle.config_k.specs.Stream.{K}
use Rattle.config_k.specs.Tables.{k_tables}
use Rattle.exactly.specs.First.{First, Exactly}
use Rattle.exactly.specs.Load.{WordsPage, BytesPage}
use Rattle.exactly.specs.Steps.{frame_page, verdict_by}
use Rattle.exactly.specs.LoadProved as load
use Rattle.exactly.specs.StepsProved as steps
use Rattle.loads.specs.Given as given
use Rattle.nights.specs.Nights.{Heard, Said, RunOf, NightOf}
use Rattle.nights.specs.Sums.{kind_of, own_kind, kinds_of, sums_of, Shows}
use Rattle.nights.specs.SumsProved as sums
use Rattle.nights.specs.Units.{done_of, taken, returned}
use Rattle.nights.specs.UnitsProved as parts
use Rattle.nights.specs.Meters.{from_nine, Unmoved, Metered}
use Rattle.nights.specs.MetersProved as meters
use Rattle.nights.specs.RangeProved as range
use Rattle.night_k.specs.List.{events_in}
use Rattle.night_k.specs.Output.{OutputOf}
use Rattle.night_k.specs.NightProved as whole

-- ---- "A stream is refused exactly when a rule there is broken, and with the first one broken": the load's page, framing and rules as one

pub words_told_the_first : (buffer words : List ℕ) (r : Answer) (after : List ℕ) → EndsWords buffer words r after → Exactly Answer (WordsPage buffer words) numbered r
words_told_the_first = load.words_told_the_first

pub bytes_told_the_first : (buffer bytes : List ℕ) (r : Answer) (after : List ℕ) → EndsBytes buffer bytes r after → Exactly Answer (BytesPage buffer bytes) numbered r
bytes_told_the_first = load.bytes_told_the_first

-- ---- its tables: a loaded image gives back each table's entries, as many as its stream brought

pub gives_back_the_count : (buffer words : List ℕ) {after : List ℕ} {answer : Answer} {lists : List (List ℕ)} → EndsWords buffer words answer after → answer ≡ Loaded
    → framed words ≡ passed lists
    → (t : Table)
    → count_of (image_in after) t * size_of t ≡ length (list_of lists t)
gives_back_the_count = given.gives_back_the_count

pub gives_back_each_entry : (buffer words : List ℕ) {after : List ℕ} {answer : Answer} {lists : List (List ℕ)} → EndsWords buffer words answer after → answer ≡ Loaded
    → framed words ≡ passed lists
    → (t : Table) (i : ℕ)
    → i * size_of t + size_of t ≤ length (list_of lists t)
    → entry_of (image_in after) t i ≡ take (size_of t) (drop (i * size_of t) (list_of lists t))
gives_back_each_entry = given.gives_back_each_entry

-- "demand 2 gives K its answer and tables"
pub k_gets_0_and_its_tables : (before : List ℕ) → too_short before ≡ false → (r : Answer) (after : List ℕ) → EndsWords before K r after
    → (r ≡ Loaded) × (image_in after ≡ image_of k_tables)
k_gets_0_and_its_tables before room r after p = let k = whole.load_of_k before room r after p in (k.0, k.1.image)

-- ---- its verdicts: a frame's page. "The first drop that applies is the verdict", and before it the first refusal

pub first_that_applies : (buffer g : List ℕ) (port time : ℕ) (frame places : List ℕ) (r : Judgement) (after told : List ℕ)
    → Judges buffer g port time frame places r after told
    → Exactly Verdict (First (frame_page buffer g port time frame)) (verdict_by buffer port frame) r.verdict
first_that_applies = steps.first_that_applies

-- ---- its partitions: over a night the units left and those taken, by sent frames and sent replicas, are the configured space and those given back

pub units_left_are_the_space_less_those_out : (buffer : List ℕ) (es : List Event) (g : List ℕ) (said : List (Said (Heard Verdict) ledger.Answer)) (z : List ℕ)
    → Freshened buffer (Ok tt) g
    → RunOf buffer g es said z
    → (j : ℕ)
    → j < many units
    → cell z units j + taken (kinds_of kind_of) (image_in buffer) j es said ≡ part_spc (image_in buffer) j + returned done_of j es said
units_left_are_the_space_less_those_out = parts.units_left_are_the_space_less_those_out

-- ---- its meters: a call, its replicas included, changes only the SHARINDX entry's credit and time, and only from step 9 on

pub only_the_own_meter : (buffer g : List ℕ) (port time : ℕ) (bytes : List ℕ) → length g ≡ cell_count → (places : List ℕ) (r : Judgement) (after told : List ℕ)
    → Judges buffer g port time bytes places r after told
    → Metered (image_in buffer) g port time bytes (from_nine r.verdict) after
only_the_own_meter = meters.only_the_own_meter

pub release_moves_no_meter : (buffer g : List ℕ) (partition j : ℕ) → j < many credit → (r : ledger.Answer) (after : List ℕ) → Released buffer g partition r after
    → Unmoved g after j
release_moves_no_meter = meters.release_moves_no_meter

-- ---- its tiles: over a night a port's tile is that of four plain sums over the verdicts, and "tiles count originals only". "A port with no frames shows no share", and no other port;
-- "with frames and no drops both are +0"; a share is "the exact bits of that division"

pub night_shows_the_sums : (buffer : List ℕ) (es : List Event) (g : List ℕ) (said : List (Said (Heard Verdict) ledger.Answer)) (z : List ℕ) (tile : ℕ → Asked)
    → NightOf buffer es (Ok tt) g said z tile
    → (p : ℕ)
    → p < 5
    → Shows (sums_of (own_kind kind_of) p es said) (tile p)
night_shows_the_sums = sums.night_shows_the_sums

-- a ledger that only permitted calls touched, from a fresh one on, is never refused with 39
pub own_ledger_never_39 : (buffer : List ℕ) (es : List Event) (g : List ℕ) (said : List (Said (Heard Verdict) ledger.Answer)) (z : List ℕ) → Freshened buffer (Ok tt) g
    → RunOf buffer g es said z
    → out_of_range (image_in buffer) z ≡ false
own_ledger_never_39 = range.own_ledger_never_39

-- ---- the night of K, whole: whatever a permitted load of K's stream leaves, and every permitted night of its list under it, is document 01's output

pub night_of_k : (before : List ℕ) → too_short before ≡ false → {r : Answer} {after : List ℕ} → EndsWords before K r after → {first : ledger.Answer} {g z : List ℕ}
    {said : List (Said (Heard Verdict) ledger.Answer)} {tile : ℕ → Asked}
    → NightOf after (events_in list_of_k) first g said z tile
    → (r ≡ Loaded) × OutputOf first said z tile
night_of_k = whole.night_of_k
