-- The demands at the entries for C and Rust: what `Demand1`, `Demand2` and `Demand3` say, of these entries' own promises. A statement has the name of the
-- one there with `-flat` behind it, or speaks of the lent ledger where that one speaks of the row.
use Rattle.std.specs.Prelude.{◌≡◌, true, false, List, [], ◌∷◌, ℕ, ◌+◌, ◌<◌, ◌≤◌, length, get_or, replicate}
use Rattle.std.proofs.Common.{sym, ◌∙◌}
use Rattle.image.specs.Layout.{image_words, image_in}
use Rattle.image.specs.Loaded.{too_short}
use Rattle.ledger.specs.Range.{out_of_range}
use Rattle.row.specs.Fresh.{no_ledger}
use Rattle.flat_numbers.specs.Flat.{low, load_in, FreshLoad}
use Rattle.flat_answers.specs.declared.FlatVerdict.{FlatVerdict}
use Rattle.flat_loads.specs.Calls.{FlatWritten, WritesFlat, LoadsWords, LoadsBytes}
use Rattle.flat_frames.specs.declared.FlatJudged.{FlatJudged}
use Rattle.flat_frames.specs.Frames.{FreshensFlat, JudgesFlat, ReleasesFlat}
use Rattle.loads.specs.Chains.{WriteChainFlat, unwritten_flat, AllWords, plain}
use Rattle.loads.specs.Refusals.{OneOf, leave_as_found}
use Rattle.loads.specs.Moves.{is_told, RestKept}
use Rattle.loads.specs.Wholes.{WholeLoadFlat}
use Rattle.loads.specs.Rest as rest
use Rattle.loads.specs.AsFound as found
use Rattle.loads.specs.Marked as marked
use Rattle.loads.specs.TraceProved as trace
use Rattle.nights.specs.Loaded.{NeverJudged, NeverThirty}
use Rattle.nights.specs.LoadedProved.{never_judged, never_thirty}
use Rattle.nights.specs.RefusedProved as refused
use Rattle.fields.specs.Fields.{part_spc}
use Rattle.ledger.specs.Row.{units, credit, many, cell_count, cell}
use Rattle.kept.specs.History.{Event}
use Rattle.records.specs.OfK.{list_of_k}
use Rattle.config_k.specs.Stream.{K}
use Rattle.flat_answers.specs.declared.FlatTile.{FlatTile}
use Rattle.flat_answers.specs.Answers.{flat_verdict}
use Rattle.exactly.specs.First.{First, Exactly}
use Rattle.exactly.specs.Load.{WordsPage, BytesPage}
use Rattle.exactly.specs.Steps.{frame_page, verdict_by}
use Rattle.exactly.specs.LoadProved as load
use Rattle.exactly.specs.StepsProved as steps
use Rattle.nights.specs.Nights.{Heard, Said, RunFlat, NightFlat, AlikeFlat}
use Rattle.nights.specs.Sums.{kind_flat, own_kind, kinds_of, sums_of, ShowsFlat}
use Rattle.nights.specs.SumsProved as sums
use Rattle.nights.specs.Units.{done_flat, taken, returned}
use Rattle.nights.specs.UnitsProved as parts
use Rattle.nights.specs.Meters.{from_nine_flat, Unmoved, Metered}
use Rattle.nights.specs.MetersProved as meters
use Rattle.nights.specs.RangeProved as range
use Rattle.night_k.specs.List.{events_in}
use Rattle.night_k.specs.Output.{OutputFlat}
use Rattle.night_k.specs.NightProved as whole
use Rattle.loads.specs.Lists.{Sent, GetsFlat}
use Rattle.loads.specs.ListsProved as lists
use Rattle.loads.specs.Rest.{room_kept}
use Rattle.nights.specs.NightLaws.{alike_flat}

-- ---- demand 1

pub refused_load_is_zero_flat : {buffer : List ℕ} {r : ℕ} {after : List ℕ} → WholeLoadFlat buffer r after → (r ≡ 0 → ⊥) → (OneOf r (9 ∷ 31 ∷ []) → ⊥)
    → image_in after ≡ replicate image_words 0
refused_load_is_zero_flat = found.flat_refused_whole_load_is_zero

pub refused_write_is_zero_flat : {numbers buffer words : List ℕ} {r : ℕ} {after kept : List ℕ} → WritesFlat numbers buffer words r after kept
    → is_told (load_in numbers).phase ≡ false
    → (r ≡ 0 → ⊥)
    → (r ≡ 0xFFFFFFFF → ⊥)
    → (OneOf r (30 ∷ 31 ∷ 32 ∷ []) → ⊥)
    → image_in kept ≡ replicate image_words 0
refused_write_is_zero_flat = found.flat_refused_write_is_zero

pub write_as_found_flat : {numbers buffer words : List ℕ} {r : ℕ} {after kept : List ℕ} → WritesFlat numbers buffer words r after kept → OneOf r leave_as_found
    → (after ≡ numbers) × (kept ≡ buffer)
write_as_found_flat = found.flat_write_as_found

pub load_as_found_flat : {buffer : List ℕ} {r : ℕ} {after : List ℕ} → WholeLoadFlat buffer r after → OneOf r leave_as_found → after ≡ buffer
load_as_found_flat = found.flat_whole_load_as_found

-- for C and Rust: numbers in the first phase, whatever the others are
pub first_write_never_30_flat : {numbers buffer words : List ℕ} {r : ℕ} {after kept : List ℕ} → WritesFlat numbers buffer words r after kept
    → low (get_or numbers 0 0) ≡ 0
    → r ≡ 30
    → ⊥
first_write_never_30_flat = found.flat_first_write_never_30

pub rest_kept_by_a_write_flat : {numbers buffer words : List ℕ} {r : ℕ} {after kept : List ℕ} → WritesFlat numbers buffer words r after kept → RestKept buffer kept
rest_kept_by_a_write_flat = rest.flat_write_keeps_the_rest

pub rest_kept_by_a_load_flat : {buffer : List ℕ} {r : ℕ} {after : List ℕ} → WholeLoadFlat buffer r after → RestKept buffer after
rest_kept_by_a_load_flat = rest.flat_whole_load_keeps_the_rest

pub refused_frame_keeps_all_lent : (buffer g : List ℕ) (port time : ℕ) (frame places : List ℕ) (r : FlatJudged) (after told : List ℕ)
    → JudgesFlat buffer g port time frame places r after told
    → r.verdict.kind ≡ 0
    → (r.replicas ≡ 0) × (after ≡ g) × (told ≡ places)
refused_frame_keeps_all_lent = refused.refused_frame_keeps_all_lent

pub refused_release_keeps_the_lent_ledger : (buffer g : List ℕ) (partition r : ℕ) (after : List ℕ) → ReleasesFlat buffer g partition r after → (r ≡ 0 → ⊥)
    → after ≡ g
refused_release_keeps_the_lent_ledger = refused.refused_release_keeps_the_lent_ledger

pub refused_lent_ledger_is_none : (buffer : List ℕ) (r : ℕ) (after : List ℕ) → FreshensFlat buffer r after → (r ≡ 0 → ⊥)
    → (after ≡ no_ledger) × ((image : List ℕ) → out_of_range image after ≡ true)
refused_lent_ledger_is_none = refused.refused_lent_ledger_is_none

pub not_loaded_not_judged_flat : {buffer : List ℕ} {r : ℕ} {after : List ℕ} → WholeLoadFlat buffer r after → (r ≡ 0 → ⊥) → (OneOf r (9 ∷ 31 ∷ []) → ⊥) → NeverJudged after
not_loaded_not_judged_flat p z h = never_judged _ (marked.flat_whole_load_unloaded p z h)

pub unfinished_not_judged_flat : {numbers buffer c : List ℕ} {cs : List (List ℕ)} {x : FlatWritten} → FreshLoad numbers → AllWords (c ∷ cs)
    → WriteChainFlat (unwritten_flat numbers buffer) (c ∷ cs) x
    → (x.answer ≡ 0 → ⊥)
    → (OneOf x.answer (30 ∷ 31 ∷ 32 ∷ []) → ⊥)
    → NeverJudged x.buffer
unfinished_not_judged_flat f w p z h = never_judged _ (marked.flat_chain_unloaded f w p z h)

pub loaded_never_30_flat : {buffer : List ℕ} {r : ℕ} {after : List ℕ} → WholeLoadFlat buffer r after → r ≡ 0 → NeverThirty after
loaded_never_30_flat p e = never_thirty _ (marked.flat_whole_load_loaded p e)

pub finished_never_30_flat : {numbers buffer c : List ℕ} {cs : List (List ℕ)} {x : FlatWritten} → FreshLoad numbers → AllWords (c ∷ cs)
    → WriteChainFlat (unwritten_flat numbers buffer) (c ∷ cs) x
    → x.answer ≡ 0
    → NeverThirty x.buffer
finished_never_30_flat f w p e = never_thirty _ (marked.flat_chain_loaded f w p e)

-- of a chain of writes from a fresh load the six numbers are those that the load state by itself has: no trace of the blocks' order or of the cutting
pub no_trace_in_the_numbers : {numbers buffer : List ℕ} {cs : List (List ℕ)} {x : FlatWritten} → FreshLoad numbers → AllWords cs
    → WriteChainFlat (unwritten_flat numbers buffer) cs x
    → x.numbers ≡ plain (load_in x.numbers)
no_trace_in_the_numbers = trace.flat_chain_leaves_no_trace

-- ---- demand 2

pub words_told_the_first_flat : (buffer words : List ℕ) (r : ℕ) (after : List ℕ) → LoadsWords buffer words r after → Exactly ℕ (WordsPage buffer words) (λ n. n) r
words_told_the_first_flat = load.words_told_the_first_flat

pub bytes_told_the_first_flat : (buffer bytes : List ℕ) (r : ℕ) (after : List ℕ) → LoadsBytes buffer bytes r after → Exactly ℕ (BytesPage buffer bytes) (λ n. n) r
bytes_told_the_first_flat = load.bytes_told_the_first_flat

pub first_that_applies_flat : (buffer g : List ℕ) (port time : ℕ) (frame places : List ℕ) (r : FlatJudged) (after told : List ℕ)
    → JudgesFlat buffer g port time frame places r after told
    → Exactly FlatVerdict (First (frame_page buffer g port time frame)) (λ n. flat_verdict (verdict_by buffer port frame n)) r.verdict
first_that_applies_flat = steps.first_that_applies_flat

pub units_left_are_the_space_less_those_out_flat : (buffer : List ℕ) (es : List Event) (g : List ℕ) (said : List (Said (Heard FlatVerdict) ℕ)) (z : List ℕ)
    → FreshensFlat buffer 0 g
    → RunFlat buffer g es said z
    → (j : ℕ)
    → j < many units
    → cell z units j + taken (kinds_of kind_flat) (image_in buffer) j es said ≡ part_spc (image_in buffer) j + returned done_flat j es said
units_left_are_the_space_less_those_out_flat = parts.units_left_are_the_space_less_those_out_flat

pub only_the_own_meter_flat : (buffer g : List ℕ) (port time : ℕ) (bytes : List ℕ) → length g ≡ cell_count → (places : List ℕ) (r : FlatJudged) (after told : List ℕ)
    → JudgesFlat buffer g port time bytes places r after told
    → Metered (image_in buffer) g port time bytes (from_nine_flat r.verdict) after
only_the_own_meter_flat = meters.only_the_own_meter_flat

pub release_moves_no_meter_flat : (buffer g : List ℕ) (partition j : ℕ) → j < many credit → (r : ℕ) (after : List ℕ) → ReleasesFlat buffer g partition r after
    → Unmoved g after j
release_moves_no_meter_flat = meters.release_moves_no_meter_flat

pub night_shows_the_sums_flat : (buffer : List ℕ) (es : List Event) (g : List ℕ) (said : List (Said (Heard FlatVerdict) ℕ)) (z : List ℕ) (tile : ℕ → FlatTile)
    → NightFlat buffer es 0 g said z tile
    → (p : ℕ)
    → p < 5
    → ShowsFlat (sums_of (own_kind kind_flat) p es said) (tile p)
night_shows_the_sums_flat = sums.night_shows_the_sums_flat

pub own_ledger_never_39_flat : (buffer : List ℕ) (es : List Event) (g : List ℕ) (said : List (Said (Heard FlatVerdict) ℕ)) (z : List ℕ) → FreshensFlat buffer 0 g
    → RunFlat buffer g es said z
    → out_of_range (image_in buffer) z ≡ false
own_ledger_never_39_flat = range.own_ledger_never_39_flat

pub night_of_k_flat : (before : List ℕ) → too_short before ≡ false → {r : ℕ} {after : List ℕ} → LoadsWords before K r after → {first : ℕ} {g z : List ℕ}
    {said : List (Said (Heard FlatVerdict) ℕ)} {tile : ℕ → FlatTile}
    → NightFlat after (events_in list_of_k) first g said z tile
    → (r ≡ 0) × OutputFlat first said z tile
night_of_k_flat = whole.night_of_k_flat

-- ---- demand 3

-- the same at the entries for C and Rust
pub demand_3_flat : {lists : List (List ℕ)} {cs ds : List (List ℕ)} {a b m n : List ℕ} {v w : FlatWritten} → Sent lists cs → Sent lists ds → AllWords cs → AllWords ds
    → image_words ≤ length a
    → image_words ≤ length b
    → FreshLoad m
    → FreshLoad n
    → WriteChainFlat (unwritten_flat m a) cs v
    → WriteChainFlat (unwritten_flat n b) ds w
    → GetsFlat lists a v
    × GetsFlat lists b w
    × (v.answer ≡ 0 → AlikeFlat v.buffer w.buffer)
demand_3_flat s t sa sb ra rb fm fn p q =
    let g = lists.both_get_the_lists_flat s t sa sb ra rb fm fn p q in
    (g.0, g.1, λ loaded. alike_flat _ _ (room_kept ra g.0.rest) (room_kept rb g.1.rest) (g.0.image ∙ sym g.1.image))
