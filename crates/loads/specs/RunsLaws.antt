-- What a run over a write's words leaves: the buffer's rest as it was, and an image as its answer says.
use Rattle.std.specs.Prelude.{◌≡◌, refl, Bool, cond, not, ℕ, ◌+◌, ◌<◌, ◌≤◌, eqb, length, set, drop, replicate}
use Rattle.std.proofs.Common.{sym, ◌∙◌, ap, subst, true≢false, lt_irrefl, lt_of_lt_of_le, add-sub_of_le, lit<, lit≤, length-append, length-set, length-drop, take_at, drop_at, drop-set-lt, get_or-set_same, get_or-set_other, eq-eqb, ne_eqb}
use Rattle.std.proofs.Math.Bool.{true, false}
use Rattle.std.proofs.lemmas.Bool.{false≢true}
use mathlib.Core.List.{List, [], ◌∷◌}
use Rattle.std.proofs.lemmas.List.{length-replicate, get_or-replicate}
use Rattle.laws.specs.Chain.{pass, zero_first}
use Rattle.image.specs.Layout.{image_words, image_in, mark_at, mark_of, marked, cleared}
use Rattle.image.specs.LayoutLaws.{get_d_in}
use Rattle.image.specs.Loaded.{over_limit, incomplete, not_loaded}
use Rattle.image.specs.SoundLaws.{limits_within}
use Rattle.image.specs.Rows.{most_of}
use Rattle.rules.specs.Rules.{ruled}
use Rattle.stream.specs.declared.Answer.{Answer}
use Rattle.stream.specs.declared.Answer.TheVariants.{More, Loaded, Refused}
use Rattle.stream.specs.declared.Load.{Load}
use Rattle.stream.specs.declared.Phase.{Phase}
use Rattle.stream.specs.declared.Phase.TheVariants.{Device, Id, Length, Sum, Data, Told}
use Rattle.stream.specs.Paper.{numbered}
use Rattle.stream.specs.Machine.{Machine, at, step, run, answer_of, begun, damaged, outside, opened}
use Rattle.stream.specs.Fine.{Roomy, Fine}
use Rattle.stream.specs.FineLaws.{cleared_fine, mark_kept, step_fine, undamaged_fine}
use Rattle.loads.specs.Refusals.{leaves_zero}
use Rattle.loads.specs.Moves.{is_told, RestKept, Move, waits, stores, refuses, loads, LeftBy}
use Rattle.loads.specs.Moves as moves
use Rattle.loads.specs.MovesLaws.{step_goes, run_keeps}

-- ---- phases
not_begun : (p : Phase) → begun p ≡ false → p ≡ Device
not_begun Device e = refl
not_begun Id e = absurd (true≢false e)
not_begun Length e = absurd (true≢false e)
not_begun Sum e = absurd (true≢false e)
not_begun Data e = absurd (true≢false e)
not_begun (Told n) e = absurd (true≢false e)

-- a load that has told its answer has begun
pub told_begun : (p : Phase) → is_told p ≡ true → begun p ≡ true
told_begun Device e = absurd (false≢true e)
told_begun Id e = absurd (false≢true e)
told_begun Length e = absurd (false≢true e)
told_begun Sum e = absurd (false≢true e)
told_begun Data e = absurd (false≢true e)
told_begun (Told n) e = refl

-- and one that has not answers "more"
pub untold_more : (p : Phase) → is_told p ≡ false → answer_of p ≡ More
untold_more Device e = refl
untold_more Id e = refl
untold_more Length e = refl
untold_more Sum e = refl
untold_more Data e = refl
untold_more (Told n) e = absurd (true≢false e)

-- ---- where a write's run starts
-- a load that has begun: the buffer as it is
pub as_begun : (l : Load) (buffer : List ℕ) → begun l.phase ≡ true → opened l buffer ≡ at l buffer
as_begun l buffer e = ap (λ (t : Bool). at l (cond t buffer (cleared buffer))) e

as_first : (l : Load) (buffer : List ℕ) → begun l.phase ≡ false → opened l buffer ≡ at l (cleared buffer)
as_first l buffer e = ap (λ (t : Bool). at l (cond t buffer (cleared buffer))) e

-- it is fine where 31 and 30 do not refuse
pub opened_fine : (l : Load) (buffer : List ℕ) → image_words ≤ length buffer → damaged l (image_in buffer) ≡ false → Fine (opened l buffer)
opened_fine l buffer room d = go (begun l.phase) refl
  where
    go : (t : Bool) → begun l.phase ≡ t → Fine (opened l buffer)
    go true e = subst Fine (sym (as_begun l buffer e)) (undamaged_fine l buffer room e d)
    go false e =
        subst Fine (sym (as_first l buffer e))
        (cleared_fine l buffer (subst (λ (p : Phase). Roomy p l (cleared buffer)) (sym (not_begun l.phase e)) tt))

-- ---- the buffer's rest
kept_store : (buffer b : List ℕ) (i v : ℕ) → i < image_words → RestKept buffer b → RestKept buffer (set b i v)
kept_store buffer b i v h k = record { rest = drop-set-lt image_words b i v h ∙ k.rest; long = length-set b i v ∙ k.long }

-- zeroing the image keeps it
pub kept_cleared : (buffer b : List ℕ) → image_words ≤ length b → RestKept buffer b → RestKept buffer (cleared b)
unfolding cleared
kept_cleared buffer b room k =
    record {
      rest = drop_at (replicate image_words 0) (drop image_words b) image_words (length-replicate {A = ℕ} image_words 0) ∙ k.rest;
      long = length-append (replicate image_words 0) (drop image_words b)
          ∙ ap (λ (n : ℕ). n + length (drop image_words b)) (length-replicate {A = ℕ} image_words 0)
          ∙ ap (λ (n : ℕ). image_words + n) (length-drop image_words b)
          ∙ add-sub_of_le room
          ∙ k.long;
    }

kept_same : (buffer : List ℕ) → RestKept buffer buffer
kept_same buffer = record { rest = refl; long = refl }

kept_move : (buffer : List ℕ) {m n : Machine} → Fine m → Move m n → RestKept buffer m.buffer → RestKept buffer n.buffer
kept_move buffer {m} f (waits w) k = k
kept_move buffer {m} f (stores i v w h) k = kept_store buffer m.buffer i v (lt_of_lt_of_le h (lit≤ tt)) k
kept_move buffer {m} f (refuses h) k = kept_cleared buffer m.buffer f.whole k
kept_move buffer {m} f (loads h) k = kept_store buffer m.buffer mark_at 1 (lit< tt) k

-- "whose rest is never written": not by a run
pub kept_run : (l : Load) (buffer words : List ℕ) → image_words ≤ length buffer → damaged l (image_in buffer) ≡ false → RestKept buffer (run (opened l buffer) words).buffer
kept_run l buffer words room d =
    run_keeps (λ m. RestKept buffer m.buffer) (λ m n f t. kept_move buffer f) (opened l buffer) words (opened_fine l buffer room d) (go (begun l.phase))
  where
    go : (t : Bool) → RestKept buffer (cond t buffer (cleared buffer))
    go true = kept_same buffer
    go false = kept_cleared buffer buffer room (kept_same buffer)

-- ---- what an answer says of the image
image_cleared : (buffer : List ℕ) → image_in (cleared buffer) ≡ replicate image_words 0
unfolding image_in cleared
image_cleared buffer = take_at (replicate image_words 0) (drop image_words buffer) image_words (length-replicate {A = ℕ} image_words 0)

-- a zero image is not marked
pub zero_unmarked : (image : List ℕ) → image ≡ replicate image_words 0 → mark_of image ≡ 0
zero_unmarked image e = ap (λ (i : List ℕ). mark_of i) e ∙ get_or-replicate image_words mark_at 0 0 (lit< tt)

-- the end block has passed and no rule is broken: the image is loaded
rule_20 : (image : List ℕ) → ruled image ≡ 0 → incomplete image ≡ false
unfolding ruled
rule_20 image e = zero_first (incomplete image) 19 _ e

marked_loaded : (m : Machine) → Fine m → ruled (image_in (marked m.buffer)) ≡ 0 → not_loaded (image_in (marked m.buffer)) ≡ false
unfolding not_loaded
marked_loaded m f e =
    sym
    (pass (not (eqb (mark_of i) 1)) (not (eqb (mark_of i) 1)) false true _ refl (ap not (eq-eqb (mark_of i) 1 mark))
    (pass (over_limit i) (over_limit i) false true _ refl
    (limits_within i (λ t. subst (λ (n : ℕ). n ≤ most_of t) (sym (mark_kept m.buffer t)) (f.within t))) (sym (rule_20 i e))))
  where
    i : List ℕ
    i = image_in (marked m.buffer)

    mark : mark_of i ≡ 1
    mark = get_d_in (marked m.buffer) mark_at (lit< tt) ∙ get_or-set_same m.buffer mark_at 1 0 (lt_of_lt_of_le (lit< tt) f.whole)

-- no refusal that zeroes the image is 0
pub not_zero : (n : ℕ) → leaves_zero n ≡ true → n ≡ 0 → ⊥
not_zero n h e = false≢true (sym (ap leaves_zero e) ∙ h)

-- a refusal says that the image is zero
pub refusal_leaves : (n : ℕ) (buffer : List ℕ) → leaves_zero n ≡ true → LeftBy (numbered n) (cleared buffer)
refusal_leaves n buffer h =
    subst (λ (t : Bool). LeftBy (cond t Loaded (Refused n)) (cleared buffer)) (sym (ne_eqb n 0 (not_zero n h))) (moves.refused h (image_cleared buffer))

-- a load that has told an answer said what its image is
abbrev Spoken : Machine → Type 0
Spoken m = is_told m.load.phase ≡ true → LeftBy (answer_of m.load.phase) m.buffer

spoken_move : {m n : Machine} → Fine m → Move m n → Spoken n
spoken_move f (waits w) t = absurd (false≢true (sym w.untold ∙ t))
spoken_move f (stores i v w h) t = absurd (false≢true (sym w.untold ∙ t))
spoken_move {m} f (refuses {n} h) t = refusal_leaves n m.buffer h
spoken_move {m} f (loads h) t = moves.loaded (marked_loaded m f h)

-- and the image of one that has not is not marked
abbrev Unmarked : Machine → Type 0
Unmarked m = is_told m.load.phase ≡ false → mark_of (image_in m.buffer) ≡ 0

unmarked_store : (b : List ℕ) (i v : ℕ) → i < mark_at → mark_of (image_in b) ≡ 0 → mark_of (image_in (set b i v)) ≡ 0
unmarked_store b i v h e =
    get_d_in (set b i v) mark_at (lit< tt)
    ∙ get_or-set_other b i mark_at v 0 (λ q. lt_irrefl i (subst (λ (x : ℕ). i < x) q h))
    ∙ sym (get_d_in b mark_at (lit< tt))
    ∙ e

unmarked_move : {m n : Machine} → is_told m.load.phase ≡ false → Move m n → Unmarked m → Unmarked n
unmarked_move u (waits w) k t = k u
unmarked_move {m} u (stores i v w h) k t = unmarked_store m.buffer i v h (k u)
unmarked_move u (refuses h) k t = absurd (true≢false t)
unmarked_move u (loads h) k t = absurd (true≢false t)

begun_move : {m n : Machine} → Move m n → begun n.load.phase ≡ true
begun_move (waits w) = w.begins
begun_move (stores i v w h) = w.begins
begun_move (refuses h) = refl
begun_move (loads h) = refl

-- ---- a run of a load that has told no answer
module _ (l : Load) (buffer words : List ℕ) (untold : is_told l.phase ≡ false) (room : image_words ≤ length buffer) (undamaged : damaged l (image_in buffer) ≡ false) where
  abbrev from : Machine
  from = opened l buffer

  fine : Fine from
  fine = opened_fine l buffer room undamaged

  -- the answer that it tells says what the image is
  pub run_spoken : is_told (run from words).load.phase ≡ true → LeftBy (answer_of (run from words).load.phase) (run from words).buffer
  run_spoken = run_keeps Spoken (λ m n f t v p. spoken_move f v) from words fine (λ t. absurd (false≢true (sym untold ∙ t)))

  -- by whether it has told one
  either_way : (is_told (run from words).load.phase ≡ false → LeftBy (answer_of (run from words).load.phase) (run from words).buffer)
      → LeftBy (answer_of (run from words).load.phase) (run from words).buffer
  either_way untold-says = go (is_told (run from words).load.phase) refl
    where
      go : (t : Bool) → is_told (run from words).load.phase ≡ t → LeftBy (answer_of (run from words).load.phase) (run from words).buffer
      go true e = run_spoken e
      go false e = untold-says e

  -- so an answer other than "more" does
  pub run_answers : (answer_of (run from words).load.phase ≡ More → ⊥) → LeftBy (answer_of (run from words).load.phase) (run from words).buffer
  run_answers h = either_way (λ e. absurd (h (untold_more (run from words).load.phase e)))

  -- and "more" does where the image was not marked
  pub run_leaves : (begun l.phase ≡ true → mark_of (image_in buffer) ≡ 0) → LeftBy (answer_of (run from words).load.phase) (run from words).buffer
  run_leaves unmarked =
      either_way
      (λ e. subst (λ (a : Answer). LeftBy a (run from words).buffer) (sym (untold_more (run from words).load.phase e))
      (moves.more (run_keeps Unmarked (λ m n f t v p. unmarked_move t v p) from words fine (λ t. start (begun l.phase) refl) e)))
    where
      start : (t : Bool) → begun l.phase ≡ t → mark_of (image_in (cond t buffer (cleared buffer))) ≡ 0
      start true e = unmarked e
      start false e = zero_unmarked _ (image_cleared buffer)

  -- and the load has begun
  pub run_begun : outside (length words) ≡ false → begun (run from words).load.phase ≡ true
  unfolding run
  run_begun o = by words o
    where
      by : (ws : List ℕ) → outside (length ws) ≡ false → begun (run from ws).load.phase ≡ true
      by [] e = absurd (true≢false e)
      by (w ∷ ws) e =
          run_keeps (λ m. begun m.load.phase ≡ true) (λ m n f t v p. begun_move v) (step from w) ws (step_fine from w fine)
          (step_goes (λ m. begun m.load.phase ≡ true) from w fine (λ t. told_begun l.phase t) (λ t n v. begun_move v))
