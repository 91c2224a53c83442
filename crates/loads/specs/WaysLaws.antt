-- Every write and every whole load goes one of its ways.
use Rattle.std.specs.Prelude.{◌≡◌, refl, Bool, true, false, cond, not, List, ℕ, ◌%◌, ◌≤◌, eqb, length}
use Rattle.std.proofs.Common.{sym, ◌∙◌, ap, subst, arith, ltb-false}
use Rattle.image.specs.Layout.{image_words, image_in, cleared}
use Rattle.image.specs.Loaded.{too_short}
use Rattle.stream.specs.declared.Answer.TheVariants.{More, Loaded, Refused}
use Rattle.stream.specs.declared.Load.{Load}
use Rattle.stream.specs.declared.Phase.{Phase}
use Rattle.stream.specs.declared.Phase.TheVariants.{Device, Id, Length, Sum, Data, Told}
use Rattle.stream.specs.Paper.{loaded, numbered, Whole, into, as_found, loaded_words, words_of, loaded_bytes}
use Rattle.stream.specs.Machine.{Machine, at, fresh, run, answer_of, damaged, outside, Written, written, untouched, opened, wrote}
use Rattle.stream.specs.Fine.{Fine}
use Rattle.stream.specs.FineLaws.{run_fine}
use Rattle.stream.specs.Ends.{settled_in}
use Rattle.stream.specs.EndsLaws.{whole}
use Rattle.flat_numbers.specs.Flat.{is_load}
use Rattle.flat_loads.specs.Calls.{FlatWritten, as_found_flat, wrote_flat}
use Rattle.flat_loads.specs.Through.{no_state, of_state}
use Rattle.loads.specs.Refusals.{this, later}
use Rattle.loads.specs.Moves.{is_told, RestKept, Way, untaken, repeats, runs, FlatWay, stateless, stated, LeftBy, WholeWay, unread, settles}
use Rattle.loads.specs.MovesLaws.{run_stays}
use Rattle.loads.specs.RunsLaws.{told_begun, as_begun, opened_fine, kept_cleared, kept_run, refusal_leaves, run_spoken}

-- ---- writes

-- a told load runs on unchanged
pub run_told : (l : Load) (buffer words : List ℕ) → is_told l.phase ≡ true → run (opened l buffer) words ≡ at l buffer
run_told l buffer words t = ap (λ (m : Machine). run m words) (as_begun l buffer (told_begun l.phase t)) ∙ run_stays (at l buffer) words t

-- a write that 31, 30 and 32 do not refuse is a run
pub taken : (l : Load) (buffer words : List ℕ) → too_short buffer ≡ false → damaged l (image_in buffer) ≡ false → outside (length words) ≡ false
    → wrote l buffer words ≡ written (run (opened l buffer) words)
unfolding wrote
taken l buffer words h d o =
    ap (λ (t : Bool). cond t (untouched 31 l buffer) (cond (damaged l (image_in buffer)) (untouched 30 l buffer) (cond (outside (length words)) (untouched 32 l buffer) m))) h
    ∙ ap (λ (t : Bool). cond t (untouched 30 l buffer) (cond (outside (length words)) (untouched 32 l buffer) m)) d
    ∙ ap (λ (t : Bool). cond t (untouched 32 l buffer) m) o
  where
    m : Written
    m = written (run (opened l buffer) words)

-- every write goes one of its ways
pub way : (l : Load) (buffer words : List ℕ) → Way l buffer words (wrote l buffer words)
unfolding wrote
way l buffer words = by (too_short buffer) refl (damaged l (image_in buffer)) refl (outside (length words)) refl (is_told l.phase) refl
  where
    by : (x : Bool) → too_short buffer ≡ x → (y : Bool) → damaged l (image_in buffer) ≡ y → (z : Bool) → outside (length words) ≡ z → (t : Bool) → is_told l.phase ≡ t
        → Way l buffer words (cond x (untouched 31 l buffer) (cond y (untouched 30 l buffer) (cond z (untouched 32 l buffer) (written (run (opened l buffer) words)))))
    by true hx y hy z hz t ht = untaken (later this) (λ (e : ◌≡◌ {A = ℕ} 31 30). absurd (omega arith))
    by false hx true hy z hz t ht = untaken this (λ e. hy)
    by false hx false hy true hz t ht = untaken (later (later this)) (λ (e : ◌≡◌ {A = ℕ} 32 30). absurd (omega arith))
    by false hx false hy false hz true ht =
        subst (λ (m : Machine). Way l buffer words (written m))
        (sym (run_told l buffer words ht))
        (repeats ht)
    by false hx false hy false hz false ht = runs ht (ltb-false (length buffer) image_words hx) hy hz

-- and every write by numbers
pub flat_way : (numbers buffer words : List ℕ) → FlatWay numbers buffer words (wrote_flat numbers buffer words)
flat_way numbers buffer words = by (is_load numbers) refl
  where
    none : (t : Bool) → FlatWay numbers buffer words (cond t (as_found_flat 31 numbers buffer) (as_found_flat 30 numbers buffer))
    none true = stateless (later this)
    none false = stateless this

    by : (t : Bool) → is_load numbers ≡ t → FlatWay numbers buffer words (wrote_flat numbers buffer words)
    by true e = subst (λ (w : FlatWritten). FlatWay numbers buffer words w) (sym (of_state numbers buffer words e)) (stated e)
    by false e = subst (λ (w : FlatWritten). FlatWay numbers buffer words w) (sym (no_state numbers buffer words e)) (none (too_short buffer))

-- ---- whole loads

-- a run from a fresh load settles
settled_way : (buffer words : List ℕ) → image_words ≤ length buffer → WholeWay buffer (into (loaded words) buffer)
settled_way buffer words room = subst (λ (w : Whole). WholeWay buffer w) (whole buffer words) (by m.load.phase refl)
  where
    m : Machine
    m = run (opened fresh buffer) words

    kept : RestKept buffer m.buffer
    kept = kept_run fresh buffer words room refl

    fine_end : Fine m
    fine_end = run_fine (opened fresh buffer) words (opened_fine fresh buffer room refl)

    never_more : (n : ℕ) → numbered n ≡ More → ⊥
    never_more n e = go (eqb n 0) e
      where
        go : (t : Bool) → cond t Loaded (Refused n) ≡ More → ⊥
        go true q = let z : ◌≡◌ {A = ℕ} 0 1 = cc in omega arith
        go false q = let z : ◌≡◌ {A = ℕ} 0 1 = cc in omega arith

    cut_way : WholeWay buffer (record { answer = numbered 10; buffer = cleared m.buffer })
    cut_way = settles room (kept_cleared buffer m.buffer fine_end.whole kept) (refusal_leaves 10 m.buffer refl) (never_more 10)

    by : (p : Phase) → m.load.phase ≡ p → WholeWay buffer (settled_in p m.buffer)
    by Device e = cut_way
    by Id e = cut_way
    by Length e = cut_way
    by Sum e = cut_way
    by Data e = cut_way
    by (Told n) e =
        settles room kept (subst (λ (p : Phase). LeftBy (answer_of p) m.buffer) e (run_spoken fresh buffer words refl room refl (ap is_told e))) (never_more n)

-- every whole load of words goes one of its ways
pub words_way : (buffer words : List ℕ) → WholeWay buffer (loaded_words buffer words)
unfolding loaded_words
words_way buffer words = by (too_short buffer) refl
  where
    by : (x : Bool) → too_short buffer ≡ x → WholeWay buffer (cond x (as_found 31 buffer) (into (loaded words) buffer))
    by true h = unread (later this)
    by false h = settled_way buffer words (ltb-false (length buffer) image_words h)

-- and every whole load of bytes
pub bytes_way : (buffer bytes : List ℕ) → WholeWay buffer (loaded_bytes buffer bytes)
unfolding loaded_bytes
bytes_way buffer bytes = by (too_short buffer) refl (not (eqb (length bytes % 4) 0))
  where
    by : (x : Bool) → too_short buffer ≡ x → (y : Bool) → WholeWay buffer (cond x (as_found 31 buffer) (cond y (as_found 9 buffer) (into (loaded (words_of bytes)) buffer)))
    by true h y = unread (later this)
    by false h true = unread this
    by false h false = settled_way buffer (words_of bytes) (ltb-false (length buffer) image_words h)
