-- Laws of scans: nothing yet, one turn more, and each way out; so a loop's answers find them.
use Rattle.std.specs.Prelude.{◌≡◌, refl, ◌⊎◌, ℕ, zero, suc, ◌+◌, ◌<◌, ◌≤◌, List, ltb, eqb, length, get_or, set, replicate}
use Rattle.std.proofs.Common.{sym, ◌∙◌, ap, subst, inl, inr, ⊎_elim, zero-le, le_refl, le_antisymm, le_of_lt, le_of_suc-le-suc, not-suc-le-zero, eq-or-lt_of_le, add-zero, suc-ne-zero, add-le-add, add-one, arith, length-set, get_or-set_same, get_or-set_other, lt-ltb, le-ltb, ltb-true, eq-eqb, ne_eqb}
use mathlib.Core.Bool.{Bool, true, false, cond, not, ◌||◌}
use Rattle.std.proofs.Math.Nat.{le_step}
use Rattle.std.proofs.lemmas.List.{length-replicate, get_or-replicate}
use Rattle.std.proofs.Math.Decide.{ℕ_discrete}
use Rattle.laws.specs.Chain.{both_passed}
use Rattle.laws.specs.Scan.{every, some_below, first, total, twice, flag, Marks, Counting, Misses}

-- ---- every
-- what every index passes, each one passes
pub every_at : (n i : ℕ) (p : ℕ → Bool) → every n p ≡ true → i < n → p i ≡ true
unfolding every
every_at zero i p e l = absurd (not-suc-le-zero l)
every_at (suc n) i p e l =
    let both = both_passed (every n p) (p n) e in
    ⊎_elim (λ q. subst (λ (k : ℕ). p k ≡ true) (sym q) both.1) (λ lt. every_at n i p both.0 lt) (eq-or-lt_of_le (le_of_suc-le-suc l))

-- ---- the first
pub first_none : (p : ℕ → Bool) → first 0 p ≡ 0
unfolding first
first_none p = refl

pub first_more : (n : ℕ) (p : ℕ → Bool) → first n p ≡ n → p n ≡ false → first (n + 1) p ≡ n + 1
unfolding first
first_more n p e h = rw add-one (rw (e, le-ltb n n (le_refl n), h) refl)

first_here : (n : ℕ) (p : ℕ → Bool) → first n p ≡ n → p n ≡ true → first (suc n) p ≡ n
unfolding first
first_here n p e h = rw (e, le-ltb n n (le_refl n), h) refl

first_later : (n i : ℕ) (p : ℕ → Bool) → first n p ≡ i → i < n → first (suc n) p ≡ i
unfolding first
first_later n i p e l = rw (e, lt-ltb i n l) refl

-- the scan stops at n: that is the answer for every longer one
pub first_found : (m n : ℕ) (p : ℕ → Bool) → n < m → first n p ≡ n → p n ≡ true → first m p ≡ n
first_found zero n p l e h = absurd (not-suc-le-zero l)
first_found (suc m) n p l e h =
    ⊎_elim (λ q. subst (λ (k : ℕ). first (suc k) p ≡ n) q (first_here n p e h)) (λ lt. first_later m n p (first_found m n p lt e h) lt)
    (eq-or-lt_of_le (le_of_suc-le-suc l))

-- the scan came to the end n, which is the m that is asked, and found none
pub first_end : (n m i : ℕ) (p : ℕ → Bool) → n ≡ m → n ≤ i → i ≤ n → first i p ≡ i → n ≡ first m p
first_end n m i p e a b h =
    let q : i ≡ n = le_antisymm b a in
    sym q ∙ sym h ∙ ap (λ (k : ℕ). first k p) (q ∙ e)

-- ---- some
pub some_none : (p : ℕ → Bool) → some_below 0 p ≡ false
unfolding some_below
some_none p = refl

pub some_more : (n : ℕ) (p : ℕ → Bool) → some_below (n + 1) p ≡ some_below n p || p n
unfolding some_below
some_more n p = rw add-one refl

or_true : (a b : Bool) → b ≡ true → a || b ≡ true
or_true true b e = refl
or_true false b e = e

or_false : (a b : Bool) → a ≡ false → b ≡ false → a || b ≡ false
or_false a b e h = ap (λ (t : Bool). t || b) e ∙ h

or_no : (a b : Bool) → b ≡ false → a || b ≡ a
or_no true b e = refl
or_no false b e = e

-- no index so far, and not this one
pub some_not : (n : ℕ) (p : ℕ → Bool) → some_below n p ≡ false → p n ≡ false → some_below (n + 1) p ≡ false
some_not n p e h = some_more n p ∙ or_false (some_below n p) (p n) e h

-- one index passes: so does one of every longer scan
pub some_found : (m n : ℕ) (p : ℕ → Bool) → n < m → p n ≡ true → some_below m p ≡ true
unfolding some_below
some_found zero n p l h = absurd (not-suc-le-zero l)
some_found (suc m) n p l h =
    ⊎_elim (λ e. or_true (some_below m p) (p m) (subst (λ (k : ℕ). p k ≡ true) e h))
    (λ lt. ap (λ (t : Bool). t || p m) (some_found m n p lt h)) (eq-or-lt_of_le (le_of_suc-le-suc l))

-- the scan came to the end n, which is the m that is asked, and found none
pub some_end : (n m i : ℕ) (p : ℕ → Bool) → n ≡ m → n ≤ i → i ≤ n → some_below i p ≡ false → false ≡ some_below m p
some_end n m i p e a b h = sym h ∙ ap (λ (k : ℕ). some_below k p) (le_antisymm b a ∙ e)

-- ---- the sum
pub total_none : (f : ℕ → ℕ) → total 0 f ≡ 0
unfolding total
total_none f = refl

pub total_more : (n : ℕ) (f : ℕ → ℕ) → total (n + 1) f ≡ total n f + f n
unfolding total
total_more n f = rw add-one refl

marks_none : (size : ℕ) (f : ℕ → ℕ) → Marks 0 f (replicate size 0)
unfolding some_below
marks_none size f v h = get_or-replicate size v 0 0 (subst (λ (k : ℕ). v < k) (length-replicate size 0) h)

marks_more : (n : ℕ) (f : ℕ → ℕ) (marks : List ℕ) → Marks n f marks → f n < length marks → Marks (n + 1) f (set marks (f n) 1)
marks_more n f marks h l v lv = ⊎_elim (λ e. here e) (λ ne. other ne) (same_or (f n) v)
  where
    same_or : (a b : ℕ) → (a ≡ b) ⊎ (a ≡ b → ⊥)
    same_or a b = decide (ℕ_discrete a b)
      where
        decide : Dec (a ≡ b) → (a ≡ b) ⊎ (a ≡ b → ⊥)
        decide (yes e) = inl e
        decide (no e) = inr e

    here : f n ≡ v → get_or (set marks (f n) 1) v 0 ≡ flag (some_below (n + 1) (λ i. eqb (f i) v))
    here e =
        subst (λ (k : ℕ). get_or (set marks (f n) 1) k 0 ≡ flag (some_below (n + 1) (λ i. eqb (f i) k))) e
        (get_or-set_same marks (f n) 1 0 l
        ∙ sym (ap flag (some_more n (λ i. eqb (f i) (f n)) ∙ or_true (some_below n (λ i. eqb (f i) (f n))) (eqb (f n) (f n)) (eq-eqb (f n) (f n) refl))))

    other : (f n ≡ v → ⊥) → get_or (set marks (f n) 1) v 0 ≡ flag (some_below (n + 1) (λ i. eqb (f i) v))
    other ne =
        get_or-set_other marks (f n) v 1 0 (λ q. ne (sym q))
        ∙ h v (subst (λ (k : ℕ). v < k) (length-set marks (f n) 1) lv)
        ∙ sym (ap flag (some_more n (λ i. eqb (f i) v) ∙ or_no (some_below n (λ i. eqb (f i) v)) (eqb (f n) v) (ne_eqb (f n) v ne)))

-- a sum of the marks that were found set: 0 as long as no value came twice
twice_none : (f : ℕ → ℕ) → eqb 0 0 ≡ not (twice 0 f)
unfolding twice some_below
twice_none f = refl

twice_more : (n sum mark : ℕ) (f : ℕ → ℕ) → eqb sum 0 ≡ not (twice n f) → mark ≡ flag (some_below n (λ i. eqb (f i) (f n)))
    → eqb (sum + mark) 0 ≡ not (twice (n + 1) f)
unfolding twice
twice_more n sum mark f e h =
    ap (λ (m : ℕ). eqb (sum + m) 0) h
    ∙ step sum (twice n f) (some_below n (λ i. eqb (f i) (f n))) e
    ∙ sym (ap not (some_more n (λ j. some_below j (λ i. eqb (f i) (f j)))))
  where
    step : (sum : ℕ) (t b : Bool) → eqb sum 0 ≡ not t → eqb (sum + flag b) 0 ≡ not (t || b)
    step sum t true e = ne_eqb (sum + 1) 0 (λ q. suc-ne-zero sum (sym (add-one sum) ∙ q)) ∙ sym (ap not (or_true t true refl))
    step sum true false e = ap (λ (m : ℕ). eqb m 0) (add-zero sum) ∙ e
    step sum false false e = ap (λ (m : ℕ). eqb m 0) (add-zero sum) ∙ e

pub counting_none : (f : ℕ → ℕ) (size : ℕ) → Counting f size 0 0 (replicate size 0)
counting_none f size =
    record { long = length-replicate size 0; marked = marks_none size f; counted = twice_none f; small = le_refl 0 }

pub counting_more : (f : ℕ → ℕ) (size i sum v mark : ℕ) (marks : List ℕ) → Counting f size i sum marks → v ≡ f i → v < size
    → mark ≡ get_or marks v 0
    → Counting f size (i + 1) (sum + mark) (set marks v 1)
counting_more f size i sum v mark marks c e l m =
    let at : f i < length marks = subst (λ (k : ℕ). k < length marks) e (subst (λ (k : ℕ). v < k) (sym c.long) l) in
    let is : mark ≡ flag (some_below i (λ j. eqb (f j) (f i))) = m ∙ ap (λ (k : ℕ). get_or marks k 0) e ∙ c.marked (f i) at in
    record {
      long = length-set marks v 1 ∙ c.long;
      marked = subst (λ (k : ℕ). Marks (i + 1) f (set marks k 1)) (sym e) (marks_more i f marks c.marked at);
      counted = twice_more i sum mark f c.counted is;
      small = add-le-add c.small (subst (λ (k : ℕ). k ≤ 1) (sym is) (flag_small (some_below i (λ j. eqb (f j) (f i)))));
    }
  where
    flag_small : (b : Bool) → flag b ≤ 1
    flag_small true = le_refl 1
    flag_small false = zero-le

-- the loop's end: some value came twice exactly where a mark was counted
pub counting_end : (f : ℕ → ℕ) (size i sum n m : ℕ) (marks : List ℕ) → Counting f size i sum marks → n ≤ i → i ≤ n → n ≡ m
    → not (eqb sum 0) ≡ twice m f
counting_end f size i sum n m marks c a b e =
    ap not c.counted ∙ not_not (twice i f) ∙ ap (λ (k : ℕ). twice k f) (le_antisymm b a ∙ e)
  where
    not_not : (t : Bool) → not (not t) ≡ t
    not_not true = refl
    not_not false = refl

-- a scan that finds none: none of its indices passes
pub none_at : (n i : ℕ) (p : ℕ → Bool) → some_below n p ≡ false → i < n → p i ≡ false
unfolding some_below
none_at zero i p e l = absurd (not-suc-le-zero l)
none_at (suc n) i p e l =
    ⊎_elim (λ q. subst (λ (k : ℕ). p k ≡ false) (sym q) (right (some_below n p) (p n) e)) (λ lt. none_at n i p (left (some_below n p) (p n) e) lt)
    (eq-or-lt_of_le (le_of_suc-le-suc l))
  where
    left : (a b : Bool) → (a || b) ≡ false → a ≡ false
    left true b q = q
    left false b q = refl

    right : (a b : Bool) → (a || b) ≡ false → b ≡ false
    right true b q = absurd (mathlib.Core.Bool.true≢false q)
    right false b q = q

-- no index passes
pub none_all : (n : ℕ) (p : ℕ → Bool) → ((i : ℕ) → i < n → p i ≡ false) → some_below n p ≡ false
none_all zero p h = some_none p
none_all (suc n) p h =
    subst (λ (k : ℕ). some_below k p ≡ false) (add-one n) (some_not n p (none_all n p (λ i l. h i (le_step l))) (h n (le_refl (suc n))))

-- the first of n is at most n
pub first_within : (n : ℕ) (p : ℕ → Bool) → first n p ≤ n
unfolding first
first_within zero p = le_refl zero
first_within (suc n) p = by (ltb (first n p) n) refl
  where
    last : (t : Bool) → cond t n (suc n) ≤ suc n
    last true = le_step (le_refl n)
    last false = le_refl (suc n)

    by : (t : Bool) → t ≡ ltb (first n p) n → cond t (first n p) (cond (p n) n (suc n)) ≤ suc n
    by true e = le_step (le_of_lt (ltb-true (first n p) n (sym e)))
    by false e = last (p n)

-- none passes, and none is found
pub first_of_none : (n : ℕ) (p : ℕ → Bool) → ((i : ℕ) → i < n → p i ≡ false) → first n p ≡ n
first_of_none zero p h = first_none p
first_of_none (suc n) p h =
    subst (λ (k : ℕ). first k p ≡ k) (add-one n) (first_more n p (first_of_none n p (λ i l. h i (le_step l))) (h n (le_refl (suc n))))

-- an index of a part that ends inside lies inside
pub part_inside : (i k m n : ℕ) → i + m ≤ n → k < m → i + k < n
part_inside i k m n h l = omega arith

pub misses_above : (n k : ℕ) → Misses n k → n ≤ k
misses_above zero k m = zero-le
misses_above (suc n) k m = ⊎_elim (λ e. absurd (m.1 (sym e))) (λ l. l) (eq-or-lt_of_le (misses_above n k m.0))
