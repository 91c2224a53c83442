-- "Nothing is judged that did not load": what a load leaves that did not end in "loaded" is not loaded, and what one leaves that did is.
use Rattle.std.specs.Prelude.{◌≡◌, refl, true, false, cond, not, List, [], ◌∷◌, ℕ, ◌<◌, ◌≤◌, eqb, length, replicate}
use Rattle.std.proofs.Common.{sym, ◌∙◌, ap, subst, lt_irrefl, arith, lit<, le-ltb}
use Rattle.std.proofs.lemmas.Bool.{false≢true}
use Rattle.image.specs.Layout.{image_words, image_in, mark_of}
use Rattle.image.specs.Loaded.{too_short, over_limit, incomplete, not_loaded}
use Rattle.stream.specs.declared.Answer.{Answer}
use Rattle.stream.specs.declared.Answer.TheVariants.{More, Loaded, Refused}
use Rattle.stream.specs.declared.Load.{Load}
use Rattle.stream.specs.Paper.{Whole}
use Rattle.stream.specs.Machine.{answer_of, begun, Written}
use Rattle.stream.specs.Cutting.{unwritten}
use Rattle.flat_numbers.specs.Flat.{FreshLoad, number_of}
use Rattle.flat_loads.specs.Calls.{FlatWritten}
use Rattle.loads.specs.Refusals.{OneOf, this, later, RefusedWith}
use Rattle.loads.specs.RefusalsLaws.{refused_number, zero_loaded}
use Rattle.image.specs.Standing.{Unloaded, IsLoaded}
use Rattle.loads.specs.Moves.{RestKept, Way, untaken, repeats, runs, LeftBy, more, loaded, refused, WholeWay, unread, settles}
use Rattle.loads.specs.RunsLaws.{told_begun, untold_more, kept_run, zero_unmarked, not_zero, run_leaves, run_begun}
use Rattle.loads.specs.WaysLaws.{way}
use Rattle.loads.specs.Wholes.{WholeLoad, WholeLoadFlat}
use Rattle.loads.specs.WholesLaws.{whole_way, answer_behind}
use Rattle.loads.specs.Chains.{done, call, WriteChain, WriteChainFlat, unwritten_flat, AllWords}
use Rattle.loads.specs.ChainsLaws.{permitted, flat_chain}

-- an image without the mark is not loaded
pub unmarked_not_loaded : (image : List ℕ) → mark_of image ≡ 0 → not_loaded image ≡ true
unfolding not_loaded
unmarked_not_loaded image e = ap (λ (mark : ℕ). cond (not (eqb mark 1)) true (cond (over_limit image) true (incomplete image))) e

-- a zero image is not loaded
pub zero_not_loaded : (image : List ℕ) → image ≡ replicate image_words 0 → not_loaded image ≡ true
zero_not_loaded image e = unmarked_not_loaded image (zero_unmarked image e)

-- so the image that a refused load leaves is not
pub zero_image_not_loaded : not_loaded (replicate image_words 0) ≡ true
zero_image_not_loaded = zero_not_loaded (replicate image_words 0) refl

-- ---- what an answer says of the image
left_unloaded : {answer : Answer} {buffer : List ℕ} → LeftBy answer buffer → (answer ≡ Loaded → ⊥) → not_loaded (image_in buffer) ≡ true
left_unloaded {buffer = buffer} (more e) h = unmarked_not_loaded (image_in buffer) e
left_unloaded (loaded e) h = absurd (h refl)
left_unloaded {buffer = buffer} (refused n e) h = zero_not_loaded (image_in buffer) e

left_loaded : {answer : Answer} {buffer : List ℕ} → LeftBy answer buffer → answer ≡ Loaded → not_loaded (image_in buffer) ≡ false
left_loaded (more e) h = absurd (let z : ◌≡◌ {A = ℕ} 0 1 = cc in omega arith)
left_loaded (loaded e) h = e
left_loaded (refused n e) h = absurd (let z : ◌≡◌ {A = ℕ} 0 1 = cc in omega arith)

left_unmarked : {answer : Answer} {buffer : List ℕ} → LeftBy answer buffer → answer ≡ More → mark_of (image_in buffer) ≡ 0
left_unmarked (more e) h = e
left_unmarked (loaded e) h = absurd (let z : ◌≡◌ {A = ℕ} 0 1 = cc in omega arith)
left_unmarked (refused n e) h = absurd (let z : ◌≡◌ {A = ℕ} 0 1 = cc in omega arith)

left_never_zero : {answer : Answer} {buffer : List ℕ} → LeftBy answer buffer → answer ≡ Refused 0 → ⊥
left_never_zero (more e) h = let z : ◌≡◌ {A = ℕ} 0 1 = cc in omega arith
left_never_zero (loaded e) h = let z : ◌≡◌ {A = ℕ} 0 1 = cc in omega arith
left_never_zero (refused {n} z e) h = not_zero n z (ap number_of h)

-- ---- an answer was not taken, or it says what the image is, and the buffer has room
data Spoke (ns : List ℕ) (answer : Answer) (buffer : List ℕ) : Type 0 where
  as_found_lem : RefusedWith ns answer → Spoke ns answer buffer
  spoke : too_short buffer ≡ false → LeftBy answer buffer → Spoke ns answer buffer

unloaded : {ns : List ℕ} {answer : Answer} {buffer : List ℕ} → Spoke ns answer buffer → (answer ≡ Loaded → ⊥) → (RefusedWith ns answer → ⊥) → Unloaded buffer
unloaded (as_found_lem o) h k = absurd (k o)
unloaded (spoke room s) h k = record { room = room; unmarked = left_unloaded s h }

is_loaded : {ns : List ℕ} {answer : Answer} {buffer : List ℕ} → Spoke ns answer buffer → answer ≡ Loaded → IsLoaded buffer
is_loaded {ns} (as_found_lem o) h = absurd (subst (RefusedWith ns) h o)
is_loaded (spoke room s) h = record { room = room; marked = left_loaded s h }

never_zero : {ns : List ℕ} {answer : Answer} {buffer : List ℕ} → (OneOf 0 ns → ⊥) → Spoke ns answer buffer → answer ≡ Refused 0 → ⊥
never_zero {ns} none (as_found_lem o) h = none (subst (RefusedWith ns) h o)
never_zero none (spoke room s) h = left_never_zero s h

with_room : {a b : List ℕ} → RestKept a b → image_words ≤ length a → too_short b ≡ false
with_room {a} {b} k room = le-ltb (length b) image_words (subst (λ (n : ℕ). image_words ≤ n) (sym k.long) room)

-- ---- whole loads
by_whole_way : {buffer : List ℕ} {w : Whole} → WholeWay buffer w → Spoke (9 ∷ 31 ∷ []) w.answer w.buffer
by_whole_way (unread o) = as_found_lem o
by_whole_way (settles room kept says m) = spoke (with_room kept room) says

-- a whole load that did not end in "loaded", and was not refused with 9 or 31, leaves an image that is not loaded
pub whole_load_unloaded : {buffer : List ℕ} {answer : Answer} {after : List ℕ} → WholeLoad buffer answer after → (answer ≡ Loaded → ⊥)
    → (RefusedWith (9 ∷ 31 ∷ []) answer → ⊥)
    → Unloaded after
whole_load_unloaded p = unloaded (by_whole_way (whole_way p))

-- and one that did leaves one that is
pub whole_load_loaded : {buffer : List ℕ} {answer : Answer} {after : List ℕ} → WholeLoad buffer answer after → answer ≡ Loaded → IsLoaded after
whole_load_loaded p = is_loaded (by_whole_way (whole_way p))

-- the same by numbers: an answer is another than "loaded" exactly where its number is not 0
flat_unloaded : {ns : List ℕ} {answer : Answer} {r : ℕ} {buffer : List ℕ} → Spoke ns answer buffer → r ≡ number_of answer → (r ≡ 0 → ⊥) → (OneOf r ns → ⊥)
    → Unloaded buffer
flat_unloaded {ns} {answer} s e h k =
    unloaded s (λ q. h (e ∙ ap number_of q)) (λ o. k (subst (λ (n : ℕ). OneOf n ns) (sym e) (refused_number answer o)))

flat_loaded : {ns : List ℕ} {answer : Answer} {r : ℕ} {buffer : List ℕ} → (OneOf 0 ns → ⊥) → Spoke ns answer buffer → r ≡ number_of answer → r ≡ 0 → IsLoaded buffer
flat_loaded {answer = answer} none s e h = is_loaded s (zero_loaded answer (never_zero none s) (sym e ∙ h))

-- neither 9 and 31 nor 30, 31 and 32 have 0 among them
unread_some : {n : ℕ} → OneOf n (9 ∷ 31 ∷ []) → 0 < n
unread_some this = lit< tt
unread_some (later this) = lit< tt
unread_some {n = n} (later (later o)) = elim o [ ]

untaken_some : {n : ℕ} → OneOf n (30 ∷ 31 ∷ 32 ∷ []) → 0 < n
untaken_some this = lit< tt
untaken_some (later this) = lit< tt
untaken_some (later (later this)) = lit< tt
untaken_some {n = n} (later (later (later o))) = elim o [ ]

-- whole loads for C and Rust: answered neither 0 nor 9 nor 31, the image is not loaded
pub flat_whole_load_unloaded : {buffer : List ℕ} {r : ℕ} {after : List ℕ} → WholeLoadFlat buffer r after → (r ≡ 0 → ⊥) → (OneOf r (9 ∷ 31 ∷ []) → ⊥) → Unloaded after
flat_whole_load_unloaded p = let a = answer_behind p in flat_unloaded (by_whole_way (whole_way a.1)) a.2

-- answered 0, the image is loaded
pub flat_whole_load_loaded : {buffer : List ℕ} {r : ℕ} {after : List ℕ} → WholeLoadFlat buffer r after → r ≡ 0 → IsLoaded after
flat_whole_load_loaded p = let a = answer_behind p in flat_loaded (λ o. lt_irrefl 0 (unread_some o)) (by_whole_way (whole_way a.1)) a.2

-- ---- chains of writes from a fresh load

-- a load that has begun has room for its image, which is as the answer says
abbrev Good : Load → List ℕ → Type 0
Good l buffer = begun l.phase ≡ true → (too_short buffer ≡ false) × LeftBy (answer_of l.phase) buffer

-- a write keeps this
good_way : {l : Load} {buffer words : List ℕ} {w : Written} → Way l buffer words w → Good l buffer → Good w.load w.buffer
good_way (untaken o d) g = g
good_way (repeats t) g = g
good_way {l} {buffer} {words} (runs t room d o) g = λ b. (
  with_room (kept_run l buffer words room d) room,
  run_leaves l buffer words t room d (λ begins. left_unmarked (g begins).1 (untold_more l.phase t)),
)

-- and its answer is refused as found, or says what the image is
spoke_way : {l : Load} {buffer words : List ℕ} {w : Written} → Way l buffer words w → Good l buffer → Spoke (30 ∷ 31 ∷ 32 ∷ []) w.answer w.buffer
spoke_way (untaken o d) g = as_found_lem o
spoke_way {l} (repeats t) g = let s = g (told_begun l.phase t) in spoke s.0 s.1
spoke_way {l} {buffer} {words} (runs t room d o) g =
    let s = good_way (runs t room d o) g (run_begun l buffer words t room d o) in spoke s.0 s.1

last_spoke : {w v : Written} {c : List ℕ} {cs : List (List ℕ)} → WriteChain w (c ∷ cs) v → Good w.load w.buffer → Spoke (30 ∷ 31 ∷ 32 ∷ []) v.answer v.buffer
last_spoke (call {s = w} {c = c} p done) g =
    subst (λ (x : Written). Spoke (30 ∷ 31 ∷ 32 ∷ []) x.answer x.buffer) (sym (permitted w p)) (spoke_way (way w.load w.buffer c) g)
last_spoke (call {s = w} {t} {c = c} p (call q r)) g =
    last_spoke {w = t} (call q r)
    (subst (λ (x : Written). Good x.load x.buffer) (sym (permitted w p)) (good_way (way w.load w.buffer c) g))

from_fresh : {buffer c : List ℕ} {cs : List (List ℕ)} {v : Written} → WriteChain (unwritten buffer) (c ∷ cs) v → Spoke (30 ∷ 31 ∷ 32 ∷ []) v.answer v.buffer
from_fresh p = last_spoke p (λ b. absurd (false≢true b))

-- any writes to a fresh load, whose last is answered "more", or is refused with none of 30, 31 and 32: the image is not loaded
pub chain_unloaded : {buffer c : List ℕ} {cs : List (List ℕ)} {v : Written} → WriteChain (unwritten buffer) (c ∷ cs) v → (v.answer ≡ Loaded → ⊥)
    → (RefusedWith (30 ∷ 31 ∷ 32 ∷ []) v.answer → ⊥)
    → Unloaded v.buffer
chain_unloaded p = unloaded (from_fresh p)

-- and where the last is answered "loaded" it is
pub chain_loaded : {buffer c : List ℕ} {cs : List (List ℕ)} {v : Written} → WriteChain (unwritten buffer) (c ∷ cs) v → v.answer ≡ Loaded → IsLoaded v.buffer
chain_loaded p = is_loaded (from_fresh p)

-- at "more" the image is not marked
pub chain_unmarked : {buffer c : List ℕ} {cs : List (List ℕ)} {v : Written} → WriteChain (unwritten buffer) (c ∷ cs) v → v.answer ≡ More
    → mark_of (image_in v.buffer) ≡ 0
chain_unmarked p e = go (from_fresh p) e
  where
    go : {answer : Answer} {buffer : List ℕ} → Spoke (30 ∷ 31 ∷ 32 ∷ []) answer buffer → answer ≡ More → mark_of (image_in buffer) ≡ 0
    go (as_found_lem o) q = absurd (subst (RefusedWith (30 ∷ 31 ∷ 32 ∷ [])) q o)
    go (spoke room s) q = left_unmarked s q

-- the same for C and Rust, of 32-bit words
module _ {numbers buffer c : List ℕ} {cs : List (List ℕ)} {x : FlatWritten} (fresh : FreshLoad numbers) (small : AllWords (c ∷ cs))
    (p : WriteChainFlat (unwritten_flat numbers buffer) (c ∷ cs) x) where
  flat_spoke : (answer : Answer) × Spoke (30 ∷ 31 ∷ 32 ∷ []) answer x.buffer × (x.answer ≡ number_of answer)
  flat_spoke =
      let f = flat_chain fresh small p in
      (f.0.answer, subst (λ (b : List ℕ). Spoke (30 ∷ 31 ∷ 32 ∷ []) f.0.answer b) (sym f.2.buffer) (from_fresh f.1), f.2.answer)

  -- the last answer is "more", 0xFFFFFFFF, or a refusal other than 30, 31 and 32: the image is not loaded
  pub flat_chain_unloaded : (x.answer ≡ 0 → ⊥) → (OneOf x.answer (30 ∷ 31 ∷ 32 ∷ []) → ⊥) → Unloaded x.buffer
  flat_chain_unloaded = flat_unloaded flat_spoke.1 flat_spoke.2

  -- the last answer is 0: it is
  pub flat_chain_loaded : x.answer ≡ 0 → IsLoaded x.buffer
  flat_chain_loaded = flat_loaded (λ o. lt_irrefl 0 (untaken_some o)) flat_spoke.1 flat_spoke.2
