-- What 30 asks of a begun load, and that every step keeps it: so no step stores outside its table, and no cutting is ever refused with 30.
use Rattle.std.specs.Prelude.{◌≡◌, refl, Bool, true, false, cond, not, List, [], ◌∷◌, ◌++◌, ℕ, zero, suc, ◌+◌, ◌-◌, ◌*◌, ◌/◌, ◌<◌, ◌≤◌, eqb, length, get_or, set, drop, replicate}
use Rattle.std.proofs.Common.{sym, ◌∙◌, ap, subst, zero-le, arith, length-append, length-set, get_or-set_same, get_or-set_other, le-ltb, ltb-false, eqb-true}
use native.Mathlib.Nat.{lt_of_lt_of_le, add_left_cancel, add-zero, le_refl, le_trans, le_of_suc-le-suc, not-suc-le-zero, lt_irrefl, le-add_right, add-mul, le_of_mul-le-mul_right, div-mul-le_self, mul_comm}
use Rattle.std.proofs.Math.Decide.{ℕ_discrete}
use Rattle.std.proofs.lemmas.List.{length-replicate}
use Rattle.std.proofs.lemmas.Bool.{eqb-false}
use Rattle.laws.specs.Chain.{none_first, none_rest}
use Rattle.image.specs.Rows.{index_of, size_of, most_of}
use Rattle.image.specs.RowLaws.{size_positive, room_inside, count_inside, count_before_mark, same_place}
use Rattle.image.specs.Blocks.{block_of}
use Rattle.image.specs.Layout.{image_words, entry_words, image_in, count_at, mark_at, cleared, counted, marked}
use Rattle.image.specs.LayoutLaws.{get_d_in}
use Rattle.image.specs.Loaded.{over_limit}
use Rattle.image.specs.Sound.{Within}
use Rattle.image.specs.SoundLaws.{within_limits, limits_within}
use Rattle.image.specs.declared.tables.Table.{Table}
use Rattle.rules.specs.Rules.{ruled}
use Rattle.crc.specs.Crc.{word_in}
use Rattle.stream.specs.Header.{Header, Wrong, Right, device, id_of, length_of, header_of}
use Rattle.stream.specs.Headers.{right, passes_room}
use Rattle.stream.specs.Machine.{Machine, at, told, refuse, had_in, place_in, finish, begins, summed, filled, step_in, step, run, begun, overdue_in, damaged}
use Rattle.stream.specs.Runs.{had_kept}
use Rattle.stream.specs.declared.Phase.{Phase}
use Rattle.stream.specs.declared.Phase.TheVariants.{Device, Id, Length, Sum, Data, Told}
use Rattle.stream.specs.declared.Load.{Load}
use Rattle.stream.specs.Fine.{Roomy, Fine}

-- the next word's place lies among the entries
pub placed_inside : (t : Table) (placed due : ℕ) (buffer : List ℕ) → 0 < due → had_in buffer t * size_of t + placed + due ≤ most_of t * size_of t
    → place_in buffer t placed < entry_words
placed_inside t placed due buffer some room = omega (arith, room_inside t, mul_comm (most_of t) (size_of t))

-- ---- the buffers that a step leaves
length_cleared : (buffer : List ℕ) → image_words ≤ length (cleared buffer)
unfolding cleared
length_cleared buffer =
    subst (λ (n : ℕ). image_words ≤ n)
    (sym (length-append (replicate image_words 0) (drop image_words buffer) ∙ ap (λ (n : ℕ). n + length (drop image_words buffer)) (length-replicate {A = ℕ} image_words 0)))
    (le-add_right image_words (length (drop image_words buffer)))

-- a cleared image has no entries
zeros_at : (n : ℕ) (l : List ℕ) (j : ℕ) → j < n → get_or (replicate n 0 ++ l) j 0 ≡ 0
zeros_at zero l j h = absurd (not-suc-le-zero h)
zeros_at (suc n) l zero h = refl
zeros_at (suc n) l (suc j) h = zeros_at n l j (le_of_suc-le-suc h)

cleared_had : (buffer : List ℕ) (t : Table) → had_in (cleared buffer) t ≡ 0
unfolding cleared
cleared_had buffer t =
    get_d_in (replicate image_words 0 ++ drop image_words buffer) (count_at t) (count_inside t) ∙ zeros_at image_words (drop image_words buffer) (count_at t) (count_inside t)

pub cleared_fine : (l : Load) (buffer : List ℕ) → Roomy l.phase l (cleared buffer) → Fine (at l (cleared buffer))
cleared_fine l buffer r =
    record { whole = length_cleared buffer; within = λ t. subst (λ (n : ℕ). n ≤ most_of t) (sym (cleared_had buffer t)) zero-le; roomy = r }

refuse_fine : (buffer : List ℕ) (n : ℕ) → Fine (refuse buffer n)
refuse_fine buffer n = cleared_fine (told n) buffer tt

-- a store that leaves the counts
pub store_fine : (l : Load) (buffer : List ℕ) (i d : ℕ) → image_words ≤ length buffer → Within (image_in buffer)
    → ((t : Table) → had_in (set buffer i d) t ≡ had_in buffer t)
    → Roomy l.phase l (set buffer i d)
    → Fine (at l (set buffer i d))
store_fine l buffer i d w within kept r =
    record {
      whole = subst (λ (n : ℕ). image_words ≤ n) (sym (length-set buffer i d)) w;
      within = λ t. subst (λ (n : ℕ). n ≤ most_of t) (sym (kept t)) (within t);
      roomy = r;
    }

-- the mark stands behind the counts
pub mark_kept : (buffer : List ℕ) (t : Table) → had_in (marked buffer) t ≡ had_in buffer t
mark_kept buffer t =
    get_d_in (marked buffer) (count_at t) (count_inside t)
    ∙ get_or-set_other buffer mark_at (count_at t) 1 0 (λ e. lt_irrefl (count_at t) (subst (λ (x : ℕ). count_at t < x) (sym e) (count_before_mark t)))
    ∙ sym (get_d_in buffer (count_at t) (count_inside t))

-- a count that rises stays within its limit, and the others are kept
risen : (buffer : List ℕ) (t : Table) (v : ℕ) → image_words ≤ length buffer → Within (image_in buffer) → v ≤ most_of t → Within (image_in (counted buffer t v))
risen buffer t v w within fits u = decide (ℕ_discrete (index_of u) (index_of t))
  where
    decide : Dec (index_of u ≡ index_of t) → had_in (counted buffer t v) u ≤ most_of u
    decide (yes e) =
        subst (λ (x : Table). had_in (counted buffer t v) x ≤ most_of x) (sym (same_place u t e))
        (subst (λ (x : ℕ). x ≤ most_of t)
        (sym (get_d_in (counted buffer t v) (count_at t) (count_inside t) ∙ get_or-set_same buffer (count_at t) v 0 (lt_of_lt_of_le (count_inside t) w))) fits)
    decide (no ne) =
        subst (λ (x : ℕ). x ≤ most_of u)
        (sym
        (get_d_in (counted buffer t v) (count_at u) (count_inside u)
        ∙ get_or-set_other buffer (count_at t) (count_at u) v 0 (λ e. ne (add_left_cancel entry_words e))
        ∙ sym (get_d_in buffer (count_at u) (count_inside u))))
        (within u)

-- ---- a step
choose : (t : Bool) (a b : Machine) → (t ≡ true → Fine a) → (t ≡ false → Fine b) → Fine (cond t a b)
choose true a b held failed = held refl
choose false a b held failed = failed refl

same_fine : (l l' : Load) (buffer : List ℕ) → Fine (at l buffer) → Roomy l'.phase l' buffer → Fine (at l' buffer)
same_fine l l' buffer f r = record { whole = f.whole; within = f.within; roomy = r }

finish_fine : (l : Load) (buffer : List ℕ) → Fine (at l buffer) → Fine (finish buffer)
finish_fine l buffer f =
    choose (eqb (ruled (image_in (marked buffer))) 0) _ _
    (λ _. store_fine (told 0) buffer mark_at 1 f.whole f.within (mark_kept buffer) tt)
    (λ _. refuse_fine buffer (ruled (image_in (marked buffer))))

summed_fine : (l : Load) (s h0 h1 : ℕ) (buffer : List ℕ) (w : ℕ) → Fine (at l buffer) → Fine (summed s h0 h1 buffer w)
summed_fine l s h0 h1 buffer w f =
    choose (eqb n 0) _ _
    (λ _. choose (not (eqb w (Rattle.crc.specs.Crc.finished s))) _ _ (λ _. refuse_fine buffer 8) (λ _. finish_fine l buffer f))
    (λ _. choose (not (eqb w (Rattle.crc.specs.Crc.checksum (h0 ∷ h1 ∷ [])))) _ _ (λ _. refuse_fine buffer 2)
    (λ _. begins_fine (header_of (block_of (id_of h0)) n (had_in buffer)) refl))
  where
    n : ℕ
    n = length_of h1

    begins_fine : (x : Header) → header_of (block_of (id_of h0)) n (had_in buffer) ≡ x → Fine (begins x (word_in s w) n buffer)
    begins_fine (Wrong number) e = refuse_fine buffer number
    begins_fine (Right t) e =
        record {
          whole = f.whole;
          within = f.within;
          roomy = subst (λ (x : ℕ). x + n ≤ most_of t * size_of t) (sym (add-zero _)) (passes_room t n (had_in buffer t) (right (block_of (id_of h0)) n (had_in buffer) t e).passes);
        }

-- a count that rises by what was placed
pub raised : (had placed s most : ℕ) → 0 < s → had * s + placed + 0 ≤ most * s → had + placed / s ≤ most
raised had placed s most pos h =
    le_of_mul-le-mul_right
    (subst (λ (x : ℕ). x ≤ most * s) (sym (add-mul had (placed / s) s))
    (le_trans (native.Mathlib.Nat.add-le-add (le_refl (had * s)) (div-mul-le_self placed s)) (subst (λ (x : ℕ). x ≤ most * s) (add-zero _) h)))
    pos

filled_fine : (l : Load) (t : Table) (placed due s b : ℕ) (buffer : List ℕ) (w : ℕ) → Fine (at l buffer)
    → had_in buffer t * size_of t + placed + due ≤ most_of t * size_of t
    → Fine (filled t placed due s b buffer w)
filled_fine l t placed due s b buffer w f room =
    choose (eqb due 0) _ _
    (λ e. choose (not (eqb w (Rattle.crc.specs.Crc.finished b))) _ _ (λ _. refuse_fine buffer 7)
    (λ _. record {
      whole = subst (λ (n : ℕ). image_words ≤ n) (sym (length-set buffer _ _)) f.whole;
      within = risen buffer t _ f.whole f.within
          (raised (had_in buffer t) placed (size_of t) (most_of t) (size_positive t)
          (subst (λ (x : ℕ). had_in buffer t * size_of t + placed + x ≤ most_of t * size_of t) (eqb-true due 0 e) room));
      roomy = tt;
    }))
    (λ e. let some : 0 < due = native.Mathlib.Nat.pos_of_ne-zero (eqb-false due 0 e) in
    let here : place_in buffer t placed < entry_words = placed_inside t placed due buffer some room in
    store_fine _ buffer _ w f.whole f.within (λ u. had_kept buffer _ w u here)
    (subst (λ (x : ℕ). x * size_of t + (placed + 1) + (due - 1) ≤ most_of t * size_of t)
    (sym (had_kept buffer _ w t here)) (omega arith)))

-- ---- every step, and every run, keeps it
step_in_fine : (p : Phase) (l : Load) (buffer : List ℕ) (w : ℕ) → Fine (at l buffer) → Roomy p l buffer → Fine (step_in p l buffer w)
step_in_fine Device l buffer w f r = choose (not (eqb w device)) _ _ (λ _. refuse_fine buffer 1) (λ _. same_fine l _ buffer f tt)
step_in_fine Id l buffer w f r = same_fine l _ buffer f tt
step_in_fine Length l buffer w f r = same_fine l _ buffer f tt
step_in_fine Sum l buffer w f r = summed_fine l l.stream l.first l.second buffer w f
step_in_fine Data l buffer w f r = filled_fine l l.table l.placed l.due l.stream l.block buffer w f r
step_in_fine (Told n) l buffer w f r = f

pub step_fine : (m : Machine) (w : ℕ) → Fine m → Fine (step m w)
unfolding step
step_fine m w f = step_in_fine m.load.phase m.load m.buffer w f f.roomy

pub run_fine : (m : Machine) (ws : List ℕ) → Fine m → Fine (run m ws)
unfolding run
run_fine m [] f = f
run_fine m (w ∷ ws) f = run_fine (step m w) ws (step_fine m w f)

-- ---- 30's test is this
due_none : (p : Phase) (l : Load) (buffer : List ℕ) → Roomy p l buffer → overdue_in p l (image_in buffer) ≡ false
due_none Device l buffer r = refl
due_none Id l buffer r = refl
due_none Length l buffer r = refl
due_none Sum l buffer r = refl
due_none Data l buffer r = le-ltb _ _ r
due_none (Told n) l buffer r = refl

none_due : (p : Phase) (l : Load) (buffer : List ℕ) → overdue_in p l (image_in buffer) ≡ false → Roomy p l buffer
none_due Device l buffer e = tt
none_due Id l buffer e = tt
none_due Length l buffer e = tt
none_due Sum l buffer e = tt
none_due Data l buffer e = ltb-false _ _ e
none_due (Told n) l buffer e = tt

-- a load that is fine is not refused with 30
pub fine_undamaged : (m : Machine) → Fine m → damaged m.load (image_in m.buffer) ≡ false
fine_undamaged m f = go (begun m.load.phase)
  where
    go : (t : Bool) → cond t (cond (over_limit (image_in m.buffer)) true (overdue_in m.load.phase m.load (image_in m.buffer))) false ≡ false
    go true =
        ap (λ (x : Bool). cond x true (overdue_in m.load.phase m.load (image_in m.buffer))) (limits_within (image_in m.buffer) f.within)
        ∙ due_none m.load.phase m.load m.buffer f.roomy
    go false = refl

-- a begun load that 31 and 30 do not refuse is fine
pub undamaged_fine : (l : Load) (buffer : List ℕ) → image_words ≤ length buffer → begun l.phase ≡ true → damaged l (image_in buffer) ≡ false → Fine (at l buffer)
undamaged_fine l buffer w b e =
    let q : cond (over_limit (image_in buffer)) true (overdue_in l.phase l (image_in buffer)) ≡ false =
    sym (ap (λ (t : Bool). cond t (cond (over_limit (image_in buffer)) true (overdue_in l.phase l (image_in buffer))) false) b) ∙ e in
    record {
      whole = w;
      within = within_limits (image_in buffer) (none_first (over_limit (image_in buffer)) _ q);
      roomy = none_due l.phase l buffer (none_rest (over_limit (image_in buffer)) _ q);
    }
