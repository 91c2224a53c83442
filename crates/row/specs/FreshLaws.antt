-- How loops fill a fresh row from its front, and what a refused call leaves.
use Rattle.std.specs.Prelude.{◌≡◌, refl, Bool, true, false, cond, List, [], ◌∷◌, ◌++◌, ℕ, zero, suc, ◌+◌, ◌-◌, ◌<◌, ◌≤◌, ltb, length, get_or, set, replicate, Ok, Err}
use Rattle.std.proofs.Common.{sym, ◌∙◌, ap, subst, ⊎_elim, append-nil, le_refl, le_antisymm, le_of_lt, le_of_suc-le-suc, not-suc-le-zero, eq-or-lt_of_le, zero-add, add-zero, add-one, arith, lit≤, length-append, length-set, get_or-append-add}
use Rattle.std.proofs.Math.ListN.{get_or-append}
use Rattle.std.proofs.lemmas.List.{set_at}
use Rattle.std.proofs.Math.Seq.{append_snoc}
use Rattle.laws.specs.Chain.{hit_lt, pass_lt, at_zero, not_zero}
use Rattle.image.specs.Layout.{image_in, count_of}
use Rattle.image.specs.declared.tables.Table.TheVariants.{Policing}
use Rattle.fields.specs.Fields.{part_spc}
use Rattle.ledger.specs.Answers.{Answer, answer_of, said_of}
use Rattle.ledger.specs.Row.{units, credit, since, start, many, cell_count}
use Rattle.ledger.specs.Range.{units_over, full_of, credit_over, tiles_off, times_over, out_of_range, unloaded}
use Rattle.row.specs.Fresh.{table, fresh_cell, fresh_of, no_ledger, Freshened, Filling}

pub length_table : (n : ℕ) (f : ℕ → ℕ) → length (table n f) ≡ n
unfolding table
length_table zero f = refl
length_table (suc n) f = length-append (table n f) (f n ∷ []) ∙ ap (λ (k : ℕ). k + 1) (length_table n f) ∙ add-one n

pub table_at : (n i : ℕ) (f : ℕ → ℕ) → i < n → get_or (table n f) i 0 ≡ f i
unfolding table
table_at zero i f h = absurd (not-suc-le-zero h)
table_at (suc n) i f h =
    ⊎_elim (λ e. subst (λ (k : ℕ). get_or (table n f ++ (f n ∷ [])) k 0 ≡ f k) (sym e) last) (λ lt. before lt (table_at n i f lt)) (eq-or-lt_of_le (le_of_suc-le-suc h))
  where
    last : get_or (table n f ++ (f n ∷ [])) n 0 ≡ f n
    last =
        ap (λ (k : ℕ). get_or (table n f ++ (f n ∷ [])) k 0) (sym (ap (λ (k : ℕ). k + 0) (length_table n f) ∙ add-zero n))
        ∙ get_or-append-add (table n f) (f n ∷ []) 0 0

    before : i < n → get_or (table n f) i 0 ≡ f i → get_or (table n f ++ (f n ∷ [])) i 0 ≡ f i
    before lt q = get_or-append (table n f) (f n ∷ []) 0 i (subst (λ (k : ℕ). i < k) (sym (length_table n f)) lt) ∙ q

-- ---- part by part
pub fresh_partition : (image : List ℕ) (j r : ℕ) → j < many units → r ≡ part_spc image j → r ≡ fresh_cell image (start units + j)
fresh_partition image j r h e = e ∙ hit_lt j (start credit) (part_spc image j) _ h ∙ ap (fresh_cell image) (sym (zero-add j))

pub fresh_meter : (image : List ℕ) (k r : ℕ) → k < many credit → r ≡ full_of image k → r ≡ fresh_cell image (start credit + k)
fresh_meter image k r h e =
    pass_lt (start credit + k) (start credit) _ _ _ (omega arith)
    (e ∙ ap (full_of image) less ∙ hit_lt (start credit + k) (start since) _ 0 (omega arith))
  where
    less : k ≡ start credit + k - start credit
    less = omega arith

-- nothing from the first meter on that has no entry
fresh_rest : (image : List ℕ) (n : ℕ) → start credit + count_of image Policing ≤ n → fresh_cell image n ≡ 0
fresh_rest image n h =
    sym (pass_lt n (start credit) 0 _ _ (omega arith) (by (ltb n (start since))))
  where
    by : (t : Bool) → 0 ≡ cond t (full_of image (n - start credit)) 0
    by true = pass_lt (n - start credit) (count_of image Policing) 0 _ 0 (omega arith) refl
    by false = refl

pub filling_none : (f : ℕ → ℕ) → Filling f (replicate cell_count 0) 0
unfolding table
filling_none f = record { within = lit≤ tt; long = refl; is = refl }

-- the part from a on, up to its k
filling_more : (f : ℕ → ℕ) (row : List ℕ) (a k v : ℕ) → Filling f row (a + k) → a + k < cell_count → v ≡ f (a + k) → Filling f (set row (a + k) v) (a + (k + 1))
unfolding table
filling_more f row a k v l h q =
    record {
      within = omega arith;
      long = length-set row (a + k) v ∙ l.long;
      is =
          ap (λ (x : List ℕ). set x (a + k) v) (l.is ∙ ap (λ (m : ℕ). table (a + k) f ++ replicate m 0) left)
          ∙ set_at (table (a + k) f) 0 (replicate (cell_count - (a + (k + 1))) 0) v (a + k) (length_table (a + k) f)
          ∙ sym (append_snoc (table (a + k) f) v (replicate (cell_count - (a + (k + 1))) 0))
          ∙ ap (λ (x : ℕ). table (a + k) f ++ (x ∷ []) ++ replicate (cell_count - (a + (k + 1))) 0) q
          ∙ ap (λ (m : ℕ). table m f ++ replicate (cell_count - (a + (k + 1))) 0) next;
    }
  where
    left : cell_count - (a + k) ≡ suc (cell_count - (a + (k + 1)))
    left = omega arith

    next : suc (a + k) ≡ a + (k + 1)
    next = omega arith

pub partition_more : (image row : List ℕ) (j v : ℕ) → Filling (fresh_cell image) row (start units + j) → j < many units → v ≡ part_spc image j
    → Filling (fresh_cell image) (set row (start units + j) v) (start units + (j + 1))
partition_more image row j v l h e = filling_more (fresh_cell image) row (start units) j v l (omega arith) (fresh_partition image j v h e)

pub meter_more : (image row : List ℕ) (k v : ℕ) → Filling (fresh_cell image) row (start credit + k) → k < many credit → v ≡ full_of image k
    → Filling (fresh_cell image) (set row (start credit + k) v) (start credit + (k + 1))
meter_more image row k v l h e = filling_more (fresh_cell image) row (start credit) k v l (omega arith) (fresh_meter image k v h e)

-- the meters start where the partitions ended
pub meters_on : (image row : List ℕ) (j : ℕ) → Filling (fresh_cell image) row (start units + j) → j ≤ many units → many units ≤ j
    → Filling (fresh_cell image) row (start credit + 0)
meters_on image row j l a b = subst (Filling (fresh_cell image) row) (zero-add j ∙ le_antisymm a b) l

-- all that follows is 0
filling_end : (f : ℕ → ℕ) (row : List ℕ) (i : ℕ) → Filling f row i → ((n : ℕ) → i ≤ n → f n ≡ 0) → row ≡ table cell_count f
unfolding table
filling_end f row i l z = l.is ∙ zeros (cell_count - i) i z ∙ ap (λ (m : ℕ). table m f) all
  where
    all : i + (cell_count - i) ≡ cell_count
    all = omega (arith, l.within)

    shift : (i m : ℕ) → suc i + m ≡ i + suc m
    shift i m = omega arith

    zeros : (m i : ℕ) → ((n : ℕ) → i ≤ n → f n ≡ 0) → table i f ++ replicate m 0 ≡ table (i + m) f
    zeros zero i z = append-nil (table i f) ∙ ap (λ (m : ℕ). table m f) (sym (add-zero i))
    zeros (suc m) i z =
        sym (append_snoc (table i f) 0 (replicate m 0))
        ∙ ap (λ (x : ℕ). table i f ++ (x ∷ []) ++ replicate m 0) (sym (z i (le_refl i)))
        ∙ zeros m (suc i) (λ n h. z n (le_of_lt h))
        ∙ ap (λ (k : ℕ). table k f) (shift i m)

-- the meters' loop has passed every entry
pub fresh_end : (image row : List ℕ) (k n : ℕ) → Filling (fresh_cell image) row (start credit + k) → n ≡ count_of image Policing → n ≤ k → row ≡ table cell_count (fresh_cell image)
fresh_end image row k n l e h =
    filling_end (fresh_cell image) row (start credit + k) l (λ m g. fresh_rest image m (omega (arith, e)))

-- a number n that 31 and 30 come to refuses, or does not
pub not_fresh : (buffer : List ℕ) (n : ℕ) (after : List ℕ) → n ≡ unloaded buffer → (n ≡ 0 → ⊥) → after ≡ no_ledger → Freshened buffer (Err n) after
not_fresh buffer n after e z h =
    let a : Err n ≡ answer_of (unloaded buffer) = not_zero _ _ _ _ _ e z (ap Err e) in
    record { answer = a; said = ap said_of a; row = not_zero _ _ _ _ _ e z h }

pub is_fresh : (buffer : List ℕ) (n : ℕ) (after : List ℕ) → n ≡ unloaded buffer → n ≡ 0 → after ≡ fresh_of (image_in buffer) → Freshened buffer (Ok tt) after
is_fresh buffer n after e z h =
    let a : (Ok tt) ≡ answer_of (unloaded buffer) = at_zero _ _ _ _ _ e z refl in
    record { answer = a; said = ap said_of a; row = at_zero _ _ _ _ _ e z h }

-- nobody who forgets the answer gets a judged bench: 39 refuses what a refused call gives, under every image
pub refused_everywhere : (image : List ℕ) → out_of_range image no_ledger ≡ true
unfolding out_of_range no_ledger
refused_everywhere image =
    always (units_over image no_ledger) _ (always (credit_over image no_ledger) _ (always (tiles_off no_ledger) _ (always (times_over no_ledger) true refl)))
  where
    always : (t y : Bool) → y ≡ true → cond t true y ≡ true
    always true y e = refl
    always false y e = e

-- the promise permits one outcome
pub one_fresh : (buffer : List ℕ) (r s : Answer) (a b : List ℕ) → Freshened buffer r a → Freshened buffer s b → (r ≡ s) × (a ≡ b)
one_fresh buffer r s a b p q = (p.answer ∙ sym q.answer, p.row ∙ sym q.row)
