-- "Refusals 1 to 8, 10 and of a loading rule leave the image zero; 9, 30, 31 and 32 leave everything as found": of every permitted write and whole
-- load. And "Words after an answer are ignored; the answer is repeated and nothing is written".
use Rattle.std.specs.Prelude.{◌≡◌, refl, Bool, true, false, cond, List, [], ◌∷◌, ℕ, length, get_or, replicate}
use Rattle.std.proofs.Common.{sym, ◌∙◌, ap, subst, true≢false, arith}
use Rattle.std.proofs.lemmas.Bool.{false≢true}
use Rattle.image.specs.Layout.{image_words, image_in}
use Rattle.image.specs.Loaded.{too_short, over_limit}
use Rattle.stream.specs.declared.Answer.{Answer}
use Rattle.stream.specs.declared.Answer.TheVariants.{More, Loaded, Refused}
use Rattle.stream.specs.declared.Load.{Load}
use Rattle.stream.specs.declared.Phase.TheVariants.{Told}
use Rattle.stream.specs.declared.states.Wrote.{Wrote}
use Rattle.stream.specs.Leaves.{Writes}
use Rattle.stream.specs.Paper.{Whole, numbered}
use Rattle.stream.specs.Machine.{answer_of, begun, overdue_in, damaged, outside, Written, written, wrote}
use Rattle.flat_numbers.specs.Flat.{low, high, phase_of, is_state, is_load, load_in, stored_in, number_of}
use Rattle.flat_loads.specs.Calls.{FlatWritten, WritesFlat, wrote_flat}
use Rattle.flat_loads.specs.Through.{of_state}
use Rattle.loads.specs.Refusals.{OneOf, this, later, RefusedWith, leave_as_found}
use Rattle.loads.specs.RefusalsLaws.{zero_not_found, refused_number, number_refused, refused_behind}
use Rattle.loads.specs.Moves.{is_told, Way, untaken, repeats, runs, FlatWay, stateless, stated, LeftBy, more, loaded, refused, WholeWay, unread, settles}
use Rattle.loads.specs.RunsLaws.{told_begun, run_answers}
use Rattle.loads.specs.WaysLaws.{taken, run_told, way, flat_way}
use Rattle.loads.specs.Wholes.{WholeLoad, WholeLoadFlat}
use Rattle.loads.specs.WholesLaws.{whole_way, answer_behind}

-- ---- what an answer says of the image
left_zero : {answer : Answer} {buffer : List ℕ} → LeftBy answer buffer → (answer ≡ More → ⊥) → (answer ≡ Loaded → ⊥) → image_in buffer ≡ replicate image_words 0
left_zero (more e) h k = absurd (h refl)
left_zero (loaded e) h k = absurd (k refl)
left_zero (refused n e) h k = e

left_not_found : {answer : Answer} {buffer : List ℕ} → LeftBy answer buffer → RefusedWith leave_as_found answer → ⊥
left_not_found {buffer = buffer} (more _) o = elim o [ ]
left_not_found {buffer = buffer} (loaded _) o = elim o [ ]
left_not_found (refused z e) o = zero_not_found z o

-- no refusal is "more" or "loaded"
not_more : {answer : Answer} {n : ℕ} → answer ≡ Refused n → answer ≡ More → ⊥
not_more e q = let z : ◌≡◌ {A = ℕ} 0 1 = cc in omega arith

not_loaded_lem : {answer : Answer} {n : ℕ} → answer ≡ Refused n → answer ≡ Loaded → ⊥
not_loaded_lem e q = let z : ◌≡◌ {A = ℕ} 0 1 = cc in omega arith

-- ---- a write
told_31 : (l : Load) (buffer words : List ℕ) → too_short buffer ≡ true → (wrote l buffer words).answer ≡ Refused 31
unfolding wrote
told_31 l buffer words h = rw h refl

told_30 : (l : Load) (buffer words : List ℕ) → too_short buffer ≡ false → damaged l (image_in buffer) ≡ true → (wrote l buffer words).answer ≡ Refused 30
unfolding wrote
told_30 l buffer words h d = rw (h, d) refl

told_32 : (l : Load) (buffer words : List ℕ) → too_short buffer ≡ false → damaged l (image_in buffer) ≡ false → outside (length words) ≡ true
    → (wrote l buffer words).answer ≡ Refused 32
unfolding wrote
told_32 l buffer words h d o = rw (h, d, o) refl

module _ {l : Load} {buffer words : List ℕ} where
  same_by : {w : Written} → Way l buffer words w → RefusedWith leave_as_found w.answer → (w.load ≡ l) × (w.buffer ≡ buffer)
  same_by (untaken n d) o = (refl, refl)
  same_by (repeats t) o = (refl, refl)
  same_by (runs t room d out) o = absurd (left_not_found (run_answers l buffer words t room d (λ q. subst (RefusedWith leave_as_found) q o)) o)

  zero_by : {w : Written} {n : ℕ} → Way l buffer words w → is_told l.phase ≡ false → w.answer ≡ Refused n → (OneOf n (30 ∷ 31 ∷ 32 ∷ []) → ⊥)
      → image_in w.buffer ≡ replicate image_words 0
  zero_by (untaken o d) u e h = absurd (h (subst (λ (a : Answer). OneOf (number_of a) (30 ∷ 31 ∷ 32 ∷ [])) e o))
  zero_by (repeats t) u e h = absurd (false≢true (sym u ∙ t))
  zero_by (runs t room d o) u e h = left_zero (run_answers l buffer words t room d (not_more e)) (not_more e) (not_loaded_lem e)

  never_30_by : {w : Written} → Way l buffer words w → begun l.phase ≡ false → w.answer ≡ Refused 30 → ⊥
  never_30_by (untaken n d) first e =
      true≢false
      (sym (d (ap number_of e))
      ∙ ap (λ (t : Bool). cond t (cond (over_limit (image_in buffer)) true (overdue_in l.phase l (image_in buffer))) false) first)
  never_30_by (repeats t) first e = true≢false (sym (told_begun l.phase t) ∙ first)
  never_30_by (runs t room d o) first e =
      left_not_found (run_answers l buffer words t room d (not_more e)) (subst (RefusedWith leave_as_found) (sym e) (later this))

  unwritten_by : {w : Written} → Way l buffer words w → is_told l.phase ≡ true → (w.load ≡ l) × (w.buffer ≡ buffer)
  unwritten_by (untaken o d) told = (refl, refl)
  unwritten_by (repeats t) told = (refl, refl)
  unwritten_by (runs t room d o) told = absurd (false≢true (sym t ∙ told))

  module _ {r : Wrote} {after : List ℕ} (p : Writes l buffer words r after) where
    -- "Order 31, 30, 32": "31: image buffer too short"
    pub short_buffer_told_31 : too_short buffer ≡ true → r.answer ≡ Refused 31
    short_buffer_told_31 h = p.answer ∙ told_31 l buffer words h

    -- "30: for a write to a load already begun, the image or load state holds a table count above its limit, or more words due than .."
    pub damaged_load_told_30 : too_short buffer ≡ false → damaged l (image_in buffer) ≡ true → r.answer ≡ Refused 30
    damaged_load_told_30 h d = p.answer ∙ told_30 l buffer words h d

    -- "32: a write of 0 words or above 64"
    pub empty_or_long_write_told_32 : too_short buffer ≡ false → damaged l (image_in buffer) ≡ false → outside (length words) ≡ true → r.answer ≡ Refused 32
    empty_or_long_write_told_32 h d o = p.answer ∙ told_32 l buffer words h d o

    -- "9, 30, 31 and 32 leave everything as found"
    pub write_as_found : RefusedWith leave_as_found r.answer → (r.load ≡ l) × (after ≡ buffer)
    write_as_found o = let s = same_by (way l buffer words) (subst (RefusedWith leave_as_found) p.answer o) in (p.state ∙ s.0, p.kept ∙ s.1)

    -- "A refused load leaves the lent image all zero": a write to a load that has told no answer yet
    pub refused_write_is_zero : {n : ℕ} → is_told l.phase ≡ false → r.answer ≡ Refused n → (OneOf n (30 ∷ 31 ∷ 32 ∷ []) → ⊥)
        → image_in after ≡ replicate image_words 0
    refused_write_is_zero u e h = ap image_in p.kept ∙ zero_by (way l buffer words) u (sym p.answer ∙ e) h

    -- "a first write never gives it": 30
    pub first_write_never_30 : begun l.phase ≡ false → r.answer ≡ Refused 30 → ⊥
    first_write_never_30 first e = never_30_by (way l buffer words) first (sym p.answer ∙ e)

    -- "Words after an answer are ignored; the answer is repeated", after 31, 30 and 32
    pub told_answer_is_repeated : {n : ℕ} → l.phase ≡ Told n → too_short buffer ≡ false → damaged l (image_in buffer) ≡ false → outside (length words) ≡ false
        → r.answer ≡ numbered n
    told_answer_is_repeated e short hurt size =
        p.answer
        ∙ ap (λ (w : Written). w.answer) (taken l buffer words short hurt size ∙ ap written (run_told l buffer words (ap is_told e)))
        ∙ ap answer_of e

    -- "and nothing is written"
    pub told_load_is_not_written : is_told l.phase ≡ true → (r.load ≡ l) × (after ≡ buffer)
    told_load_is_not_written told = let s = unwritten_by (way l buffer words) told in (p.state ∙ s.0, p.kept ∙ s.1)

-- ---- a write for C and Rust

-- numbers that are a load state's are the state's numbers: a write to a buffer too short shows it
numbers_again : (numbers : List ℕ) → is_load numbers ≡ true → stored_in numbers (load_in numbers) ≡ numbers
unfolding wrote_flat wrote
numbers_again numbers e = sym (ap (λ (w : FlatWritten). w.numbers) (of_state numbers [] [] e))

module _ {numbers buffer words : List ℕ} where
  flat_same_by : {w : FlatWritten} → FlatWay numbers buffer words w → OneOf w.answer leave_as_found → (w.numbers ≡ numbers) × (w.buffer ≡ buffer)
  flat_same_by (stateless n) o = (refl, refl)
  flat_same_by (stated e) o =
      let s = same_by (way (load_in numbers) buffer words) (number_refused (wrote (load_in numbers) buffer words).answer o) in
      (ap (stored_in numbers) s.0 ∙ numbers_again numbers e, s.1)

  flat_zero_by : {w : FlatWritten} → FlatWay numbers buffer words w → is_told (load_in numbers).phase ≡ false → (w.answer ≡ 0 → ⊥) → (w.answer ≡ 0xFFFFFFFF → ⊥)
      → (OneOf w.answer (30 ∷ 31 ∷ 32 ∷ []) → ⊥)
      → image_in w.buffer ≡ replicate image_words 0
  flat_zero_by (stateless this) u z m h = absurd (h this)
  flat_zero_by (stateless (later this)) u z m h = absurd (h (later this))
  flat_zero_by (stateless {n = n} (later (later o))) u z m h = elim o [ ]
  flat_zero_by (stated e) u z m h =
      zero_by (way (load_in numbers) buffer words) u (refused_behind (wrote (load_in numbers) buffer words).answer z m) h

  module _ {r : ℕ} {after kept : List ℕ} (p : WritesFlat numbers buffer words r after kept) where
    -- "9, 30, 31 and 32 leave everything as found": all six numbers and the buffer
    pub flat_write_as_found : OneOf r leave_as_found → (after ≡ numbers) × (kept ≡ buffer)
    flat_write_as_found o =
        let s = flat_same_by (flat_way numbers buffer words) (subst (λ (n : ℕ). OneOf n leave_as_found) p.answer o) in (p.state ∙ s.0, p.image ∙ s.1)

    -- "A refused load leaves the lent image all zero": an answer other than "loaded" and "more" to a load that has told none yet
    pub flat_refused_write_is_zero : is_told (load_in numbers).phase ≡ false → (r ≡ 0 → ⊥) → (r ≡ 0xFFFFFFFF → ⊥) → (OneOf r (30 ∷ 31 ∷ 32 ∷ []) → ⊥)
        → image_in kept ≡ replicate image_words 0
    flat_refused_write_is_zero u z m h =
        ap image_in p.image
        ∙ flat_zero_by (flat_way numbers buffer words) u (λ q. z (p.answer ∙ q)) (λ q. m (p.answer ∙ q))
        (λ o. h (subst (λ (n : ℕ). OneOf n (30 ∷ 31 ∷ 32 ∷ [])) (sym p.answer) o))

    -- "a first write never gives it": 30, for numbers in the first phase, whatever the others are
    pub flat_first_write_never_30 : low (get_or numbers 0 0) ≡ 0 → r ≡ 30 → ⊥
    flat_first_write_never_30 first e =
        let a : Answer = (wrote (load_in numbers) buffer words).answer in
        let is : is_load numbers ≡ true = ap (λ (n : ℕ). is_state n (high (get_or numbers 0 0)) (low (get_or numbers 1 0))) first in
        let told : number_of a ≡ 30 = sym (p.answer ∙ ap (λ (w : FlatWritten). w.answer) (of_state numbers buffer words is)) ∙ e in
        never_30_by (way (load_in numbers) buffer words) (ap (λ (n : ℕ). begun (phase_of n (high (get_or numbers 0 0)))) first)
        (refused_behind a (λ z. let q : ◌≡◌ {A = ℕ} 0 30 = sym z ∙ told in omega arith) (λ m. let q : ◌≡◌ {A = ℕ} 0xFFFFFFFF 30 = sym m ∙ told in omega arith)
        ∙ ap Refused told)

-- ---- whole loads
module _ {buffer : List ℕ} where
  whole_same_by : {w : Whole} → WholeWay buffer w → RefusedWith leave_as_found w.answer → w.buffer ≡ buffer
  whole_same_by (unread n) o = refl
  whole_same_by (settles room kept says m) o = absurd (left_not_found says o)

  whole_zero_by : {w : Whole} → WholeWay buffer w → (w.answer ≡ Loaded → ⊥) → (RefusedWith (9 ∷ 31 ∷ []) w.answer → ⊥) → image_in w.buffer ≡ replicate image_words 0
  whole_zero_by (unread o) z h = absurd (h o)
  whole_zero_by (settles room kept says m) z h = left_zero says m z

  whole_never_30_by : {w : Whole} → WholeWay buffer w → w.answer ≡ Refused 30 → ⊥
  whole_never_30_by (unread this) e = let q : ◌≡◌ {A = ℕ} 9 30 = ap number_of e in omega arith
  whole_never_30_by (unread (later this)) e = let q : ◌≡◌ {A = ℕ} 31 30 = ap number_of e in omega arith
  whole_never_30_by (unread {n = n} (later (later o))) e = elim o [ ]
  whole_never_30_by (settles room kept says m) e = left_not_found says (subst (RefusedWith leave_as_found) (sym e) (later this))

  module _ {answer : Answer} {after : List ℕ} (p : WholeLoad buffer answer after) where
    -- "9, 30, 31 and 32 leave everything as found"
    pub whole_load_as_found : RefusedWith leave_as_found answer → after ≡ buffer
    whole_load_as_found = whole_same_by (whole_way p)

    -- "A refused load leaves the lent image all zero": any answer but "loaded", 9 and 31
    pub refused_whole_load_is_zero : (answer ≡ Loaded → ⊥) → (RefusedWith (9 ∷ 31 ∷ []) answer → ⊥) → image_in after ≡ replicate image_words 0
    refused_whole_load_is_zero = whole_zero_by (whole_way p)

    -- "a whole load .. never gives it": 30
    pub whole_load_never_30 : answer ≡ Refused 30 → ⊥
    whole_load_never_30 = whole_never_30_by (whole_way p)

  -- and for C and Rust
  module _ {r : ℕ} {after : List ℕ} (p : WholeLoadFlat buffer r after) where
    -- 9 and 31 leave the buffer as found
    pub flat_whole_load_as_found : OneOf r leave_as_found → after ≡ buffer
    flat_whole_load_as_found o =
        let a = answer_behind p in whole_load_as_found a.1 (number_refused a.0 (subst (λ (n : ℕ). OneOf n leave_as_found) a.2 o))

    -- any other answer but 0 leaves the image zero
    pub flat_refused_whole_load_is_zero : (r ≡ 0 → ⊥) → (OneOf r (9 ∷ 31 ∷ []) → ⊥) → image_in after ≡ replicate image_words 0
    flat_refused_whole_load_is_zero z h =
        let a = answer_behind p in
        refused_whole_load_is_zero a.1 (λ q. z (a.2 ∙ ap number_of q))
        (λ o. h (subst (λ (n : ℕ). OneOf n (9 ∷ 31 ∷ [])) (sym a.2) (refused_number a.0 o)))
