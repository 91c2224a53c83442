-- Demand 1. "It takes every stream, image, ledger, frame and list to an end. The public entries test what they need and refuse by number." Every function
-- is shown to end, and no entry asks anything of its caller; here is what a refusal leaves, and that whatever did not load is never judged.
use Rattle.std.specs.Prelude.{◌≡◌, true, false, List, [], ◌∷◌, ℕ, length, replicate, Ok, Err}
use Rattle.image.specs.Layout.{image_words, image_in, mark_of}
use Rattle.image.specs.Loaded.{too_short, not_loaded}
use Rattle.stream.specs.declared.Answer.{Answer}
use Rattle.stream.specs.declared.Answer.TheVariants.{More, Loaded, Refused}
use Rattle.stream.specs.declared.Load.{Load}
use Rattle.stream.specs.declared.Phase.TheVariants.{Told}
use Rattle.stream.specs.declared.states.Wrote.{Wrote}
use Rattle.stream.specs.Paper.{numbered}
use Rattle.stream.specs.Machine.{begun, damaged, outside, Written}
use Rattle.stream.specs.Cutting.{unwritten}
use Rattle.stream.specs.Leaves.{Writes}
use Rattle.ledger.specs.Answers as ledger
use Rattle.ledger.specs.Range.{out_of_range}
use Rattle.row.specs.Fresh.{no_ledger, Freshened}
use Rattle.row.specs.Release.{Released}
use Rattle.settle.specs.declared.Verdict.TheVariants as verdict
use Rattle.judge.specs.declared.Judgement.{Judgement}
use Rattle.judge.specs.Judge.{Judges}
use Rattle.loads.specs.Chains.{WriteChain}
use Rattle.loads.specs.Refusals.{OneOf, RefusedWith, leave_as_found}
use Rattle.loads.specs.Moves.{is_told, RestKept}
use Rattle.loads.specs.Wholes.{WholeLoad}
use Rattle.loads.specs.Rest as rest
use Rattle.loads.specs.AsFound as found
use Rattle.loads.specs.Marked as marked
use Rattle.nights.specs.Loaded.{NeverJudged, NeverThirty}
use Rattle.nights.specs.LoadedProved.{never_judged, never_thirty}
use Rattle.nights.specs.RefusedProved as refused

-- ---- "A refused load leaves the lent image all zero, or untouched where document 01 says so"

-- a whole load, of words or of bytes: any answer but loaded, 9 and 31
pub refused_load_is_zero : {buffer : List ℕ} {answer : Answer} {after : List ℕ} → WholeLoad buffer answer after → (answer ≡ Loaded → ⊥)
    → (RefusedWith (9 ∷ 31 ∷ []) answer → ⊥)
    → image_in after ≡ replicate image_words 0
refused_load_is_zero = found.refused_whole_load_is_zero

-- a write, in whatever state the load stood that had told no answer yet: any refusal but 30, 31 and 32
pub refused_write_is_zero : {l : Load} {buffer words : List ℕ} {r : Wrote} {after : List ℕ} → Writes l buffer words r after → {n : ℕ} → is_told l.phase ≡ false
    → r.answer ≡ Refused n
    → (OneOf n (30 ∷ 31 ∷ 32 ∷ []) → ⊥)
    → image_in after ≡ replicate image_words 0
refused_write_is_zero = found.refused_write_is_zero

-- which a write refuses in the "order 31, 30, 32": a buffer too short; "a count above its limit, or more words due"; "0 words or above 64"
pub short_buffer_told_31 : {l : Load} {buffer words : List ℕ} {r : Wrote} {after : List ℕ} → Writes l buffer words r after → too_short buffer ≡ true → r.answer ≡ Refused 31
short_buffer_told_31 = found.short_buffer_told_31

pub damaged_load_told_30 : {l : Load} {buffer words : List ℕ} {r : Wrote} {after : List ℕ} → Writes l buffer words r after → too_short buffer ≡ false
    → damaged l (image_in buffer) ≡ true
    → r.answer ≡ Refused 30
damaged_load_told_30 = found.damaged_load_told_30

pub empty_or_long_write_told_32 : {l : Load} {buffer words : List ℕ} {r : Wrote} {after : List ℕ} → Writes l buffer words r after → too_short buffer ≡ false
    → damaged l (image_in buffer) ≡ false
    → outside (length words) ≡ true
    → r.answer ≡ Refused 32
empty_or_long_write_told_32 = found.empty_or_long_write_told_32

-- "9, 30, 31 and 32 leave everything as found": so what was judged before is judged after, and nothing else
pub write_as_found : {l : Load} {buffer words : List ℕ} {r : Wrote} {after : List ℕ} → Writes l buffer words r after → RefusedWith leave_as_found r.answer
    → (r.load ≡ l) × (after ≡ buffer)
write_as_found = found.write_as_found

pub load_as_found : {buffer : List ℕ} {answer : Answer} {after : List ℕ} → WholeLoad buffer answer after → RefusedWith leave_as_found answer → after ≡ buffer
load_as_found = found.whole_load_as_found

-- "Words after an answer are ignored; the answer is repeated"
pub told_answer_is_repeated : {l : Load} {buffer words : List ℕ} {r : Wrote} {after : List ℕ} → Writes l buffer words r after → {n : ℕ} → l.phase ≡ Told n
    → too_short buffer ≡ false
    → damaged l (image_in buffer) ≡ false
    → outside (length words) ≡ false
    → r.answer ≡ numbered n
told_answer_is_repeated = found.told_answer_is_repeated

-- "and nothing is written"
pub told_load_is_not_written : {l : Load} {buffer words : List ℕ} {r : Wrote} {after : List ℕ} → Writes l buffer words r after → is_told l.phase ≡ true
    → (r.load ≡ l) × (after ≡ buffer)
told_load_is_not_written = found.told_load_is_not_written

-- 30: "a whole load or a first write never gives it"
pub whole_load_never_30 : {buffer : List ℕ} {answer : Answer} {after : List ℕ} → WholeLoad buffer answer after → answer ≡ Refused 30 → ⊥
whole_load_never_30 = found.whole_load_never_30

pub first_write_never_30 : {l : Load} {buffer words : List ℕ} {r : Wrote} {after : List ℕ} → Writes l buffer words r after → begun l.phase ≡ false
    → r.answer ≡ Refused 30
    → ⊥
first_write_never_30 = found.first_write_never_30

-- ---- "a lent buffer, whose rest is never written": its length too stays, for all load states, buffers and words

pub rest_kept_by_a_write : {l : Load} {buffer words : List ℕ} {r : Wrote} {after : List ℕ} → Writes l buffer words r after → RestKept buffer after
rest_kept_by_a_write = rest.write_keeps_the_rest

pub rest_kept_by_a_load : {buffer : List ℕ} {answer : Answer} {after : List ℕ} → WholeLoad buffer answer after → RestKept buffer after
rest_kept_by_a_load = rest.whole_load_keeps_the_rest

-- ---- "a refused frame changes nothing": it has no replica, and the row and the lent places are as found

pub refused_frame_keeps_all : (buffer g : List ℕ) (port time : ℕ) (frame places : List ℕ) (n : ℕ) (r : Judgement) (after told : List ℕ)
    → Judges buffer g port time frame places r after told
    → r.verdict ≡ verdict.Refused n
    → (r.replicas ≡ 0) × (after ≡ g) × (told ≡ places)
refused_frame_keeps_all = refused.refused_frame_keeps_all

pub refused_release_keeps_the_row : (buffer g : List ℕ) (partition n : ℕ) (r : ledger.Answer) (after : List ℕ) → Released buffer g partition r after
    → r ≡ Err n
    → after ≡ g
refused_release_keeps_the_row = refused.refused_release_keeps_the_row

-- a refused fresh ledger is none, never what stood in the row, and 39 refuses it under every image
pub refused_ledger_is_none : (buffer : List ℕ) (n : ℕ) (r : ledger.Answer) (after : List ℕ) → Freshened buffer r after → r ≡ Err n
    → (after ≡ no_ledger) × ((image : List ℕ) → out_of_range image after ≡ true)
refused_ledger_is_none = refused.refused_ledger_is_none

-- ---- "An image that isn't loaded is never judged": the night that was billed for nothing

-- a zero image is not loaded
pub zero_image_not_loaded : not_loaded (replicate image_words 0) ≡ true
zero_image_not_loaded = marked.zero_image_not_loaded

-- from a fresh load an image at "more" is not marked
pub unfinished_not_marked : {buffer c : List ℕ} {cs : List (List ℕ)} {v : Written} → WriteChain (unwritten buffer) (c ∷ cs) v → v.answer ≡ More
    → mark_of (image_in v.buffer) ≡ 0
unfinished_not_marked = marked.chain_unmarked

-- whatever a whole load answered but loaded, 9 and 31: a fresh ledger, every frame and every release is told 30, and tiles 0 to 4 are not-loaded
pub not_loaded_not_judged : {buffer : List ℕ} {answer : Answer} {after : List ℕ} → WholeLoad buffer answer after → (answer ≡ Loaded → ⊥)
    → (RefusedWith (9 ∷ 31 ∷ []) answer → ⊥)
    → NeverJudged after
not_loaded_not_judged p z h = never_judged _ (marked.whole_load_unloaded p z h)

-- whatever the last of a chain of permitted writes from a fresh load answered, "more" among it, but loaded, 30, 31 and 32: the same
pub unfinished_not_judged : {buffer c : List ℕ} {cs : List (List ℕ)} {v : Written} → WriteChain (unwritten buffer) (c ∷ cs) v → (v.answer ≡ Loaded → ⊥)
    → (RefusedWith (30 ∷ 31 ∷ 32 ∷ []) v.answer → ⊥)
    → NeverJudged v.buffer
unfinished_not_judged p z h = never_judged _ (marked.chain_unloaded p z h)

-- answered loaded, no call under that image is ever told 30
pub loaded_never_30 : {buffer : List ℕ} {answer : Answer} {after : List ℕ} → WholeLoad buffer answer after → answer ≡ Loaded → NeverThirty after
loaded_never_30 p e = never_thirty _ (marked.whole_load_loaded p e)

pub finished_never_30 : {buffer c : List ℕ} {cs : List (List ℕ)} {v : Written} → WriteChain (unwritten buffer) (c ∷ cs) v → v.answer ≡ Loaded → NeverThirty v.buffer
finished_never_30 p e = never_thirty _ (marked.chain_loaded p e)
