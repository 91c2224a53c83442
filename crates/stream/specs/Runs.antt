-- Runs of the machine: in parts, after an answer, and over a block's data.
use Rattle.std.specs.Prelude.{◌≡◌, refl, List, [], ◌∷◌, ◌++◌, ℕ, suc, ◌+◌, ◌-◌, ◌*◌, ◌<◌, ◌≤◌, length, set, drop}
use Rattle.std.proofs.Common.{sym, ◌∙◌, ap, subst, add-zero, add-suc, suc-add, lt_irrefl, add-one, arith, get_or-set_other, drop-set-lt, ne_eqb}
use Rattle.std.proofs.Math.Nat.{sub-zero}
use Rattle.std.proofs.lemmas.List.Edits.{sets}
use Rattle.crc.specs.Crc.{word_in, words_in}
use Rattle.image.specs.Rows.{size_of, start_of}
use Rattle.image.specs.RowLaws.{count_inside}
use Rattle.image.specs.Layout.{entry_words, count_at}
use Rattle.image.specs.LayoutLaws.{get_d_in}
use Rattle.image.specs.declared.tables.Table.{Table}
use Rattle.stream.specs.Machine.{Machine, at, filling, step_in, step, run, had_in, place_in}
use Rattle.stream.specs.declared.Phase.{Phase}
use Rattle.stream.specs.declared.Phase.TheVariants.{Told}
use Rattle.stream.specs.declared.Load.{Load}

-- a run in parts
pub run_append : (m : Machine) (xs ys : List ℕ) → run m (xs ++ ys) ≡ run (run m xs) ys
unfolding run
run_append m [] ys = refl
run_append m (x ∷ xs) ys = run_append (step m x) xs ys

-- words after an answer change nothing
pub run_told : (l : Load) (buffer ws : List ℕ) (n : ℕ) → l.phase ≡ Told n → run (at l buffer) ws ≡ at l buffer
unfolding run step
run_told l buffer [] n e = refl
run_told l buffer (w ∷ ws) n e = ap (λ (p : Phase). run (step_in p l buffer w) ws) e ∙ run_told l buffer ws n e

-- a store among the entries leaves the counts
pub had_kept : (buffer : List ℕ) (i d : ℕ) (t : Table) → i < entry_words → had_in (set buffer i d) t ≡ had_in buffer t
had_kept buffer i d t h =
    get_d_in (set buffer i d) (count_at t) (count_inside t)
    ∙ get_or-set_other buffer i (count_at t) d 0 (λ e. lt_irrefl i (subst (λ (x : ℕ). i < x) e (omega arith)))
    ∙ sym (get_d_in buffer (count_at t) (count_inside t))

-- stores that end before n leave what stands from n on
pub drop_sets : (n : ℕ) (l : List ℕ) (i : ℕ) (vs : List ℕ) → i + length vs ≤ n → drop n (sets l i vs) ≡ drop n l
drop_sets n l i [] h = refl
drop_sets n l i (v ∷ vs) h =
    drop_sets n (set l i v) (suc i) vs (subst (λ (x : ℕ). x ≤ n) (add-suc i (length vs) ∙ sym (suc-add i (length vs))) h)
    ∙ drop-set-lt n l i v (omega arith)

-- one data word
data_step : (t : Table) (placed due s b : ℕ) (buffer : List ℕ) (d : ℕ) → 0 < due
    → step (at (filling t placed due s b) buffer) d
    ≡ at (filling t (placed + 1) (due - 1) (word_in s d) (word_in b d)) (set buffer (place_in buffer t placed) d)
unfolding step
data_step t placed due s b buffer d h =
    rw (ne_eqb due 0 (λ e. lt_irrefl 0 (subst (λ (x : ℕ). 0 < x) e h))) refl

-- a run of data words, no more than are due and all inside the entries: they are stored one behind the other, and go into both registers
pub run_data : (t : Table) (placed due s b : ℕ) (buffer ds : List ℕ) → length ds ≤ due
    → place_in buffer t placed + length ds ≤ entry_words
    → run (at (filling t placed due s b) buffer) ds
    ≡ at (filling t (placed + length ds) (due - length ds) (words_in s ds) (words_in b ds)) (sets buffer (place_in buffer t placed) ds)
unfolding run words_in
run_data t placed due s b buffer [] h room =
    ap (λ (x : ℕ). at (filling t x due s b) buffer) (sym (add-zero placed))
    ∙ ap (λ (x : ℕ). at (filling t (placed + 0) x s b) buffer) (sym (sub-zero due))
run_data t placed due s b buffer (d ∷ ds) h room =
    let p : ℕ = place_in buffer t placed in
    let buffer' : List ℕ = set buffer p d in
    let kept : had_in buffer' t ≡ had_in buffer t = had_kept buffer p d t (omega arith) in
    let next : place_in buffer' t (placed + 1) ≡ suc p =
    ap (λ (x : ℕ). start_of t + x * size_of t + (placed + 1)) kept
    ∙ ap (λ (x : ℕ). start_of t + had_in buffer t * size_of t + x) (add-one placed)
    ∙ add-suc (start_of t + had_in buffer t * size_of t) placed in
    ap (λ (m : Machine). run m ds) (data_step t placed due s b buffer d (omega arith))
    ∙ run_data t (placed + 1) (due - 1) (word_in s d) (word_in b d) buffer' ds (omega arith)
    (subst (λ (x : ℕ). x + length ds ≤ entry_words) (sym next) (subst (λ (x : ℕ). x ≤ entry_words) (add-suc p (length ds) ∙ sym (suc-add p (length ds))) room))
    ∙ ap (λ (x : ℕ). at (filling t (placed + 1 + length ds) (due - 1 - length ds) (words_in (word_in s d) ds) (words_in (word_in b d) ds)) (sets buffer' x ds)) next
    ∙ ap (λ (x : ℕ). at (filling t x (due - 1 - length ds) (words_in (word_in s d) ds) (words_in (word_in b d) ds)) (sets buffer' (suc p) ds)) (ahead placed (length ds))
    ∙ ap (λ (x : ℕ). at (filling t (placed + suc (length ds)) x (words_in (word_in s d) ds) (words_in (word_in b d) ds)) (sets buffer' (suc p) ds)) (less due (length ds))
  where
    ahead : (a n : ℕ) → a + 1 + n ≡ a + suc n
    ahead a n = omega arith

    less : (a n : ℕ) → a - 1 - n ≡ a - suc n
    less a n = omega arith
