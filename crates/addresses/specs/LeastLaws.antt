-- Laws of the scan for the least key: how a loop that keeps the best match so far goes on and ends, and what the match that it gives is.
use Rattle.std.specs.Prelude.{◌≡◌, ℕ, zero, suc, ◌+◌, ◌-◌, ◌<◌, ◌≤◌, ltb}
use Rattle.std.proofs.Math.Path.{refl}
use Rattle.std.proofs.Common.{sym, ◌∙◌, ap, subst, ⊎_elim, add-zero, add-suc, le_refl, le_antisymm, le_of_lt, le_of_suc-le-suc, not-suc-le-zero, eq-or-lt_of_le, lt_irrefl, lt_of_lt_of_le, le_trans, add-one, arith}
use mathlib.Core.Bool.{Bool, true, false, cond}
use Rattle.std.proofs.Math.Nat.{le_step}
use borrow.Author.Tests.{lt-ltb, le-ltb}
use Rattle.laws.specs.Scan.{some_below, least}
use Rattle.lookup.specs.Groups.{from}
use Rattle.lookup.specs.GroupsLaws.{or_left, or_right}
use Rattle.addresses.specs.Least.{Leads, none_yet, best_yet, Lowest, Scanned, nothing, found}

-- ---- one index more, at the definition's suc i
module _ (p : ℕ → Bool) (key : ℕ → ℕ) (i : ℕ) where
  pub not_this : (b : ℕ) → least i p key ≡ b → b < i → p i ≡ false → least (suc i) p key ≡ b
  unfolding least
  not_this b e l h = rw (h, e, lt-ltb b i l) refl

  pub still_none : least i p key ≡ i → p i ≡ false → least (suc i) p key ≡ suc i
  unfolding least
  still_none e h = rw (h, e, le-ltb i i (le_refl i)) refl

  pub first_match : least i p key ≡ i → p i ≡ true → least (suc i) p key ≡ i
  unfolding least
  first_match e h = rw (h, e, le-ltb i i (le_refl i)) refl

  pub lower : (b : ℕ) → least i p key ≡ b → b < i → p i ≡ true → key i < key b → least (suc i) p key ≡ i
  unfolding least
  lower b e l h k = rw (h, e, lt-ltb b i l, lt-ltb (key i) (key b) k) refl

  pub no_lower : (b : ℕ) → least i p key ≡ b → b < i → p i ≡ true → key b ≤ key i → least (suc i) p key ≡ b
  unfolding least
  no_lower b e l h k = rw (h, e, lt-ltb b i l, le-ltb (key i) (key b) k) refl

-- a test, its two ways
by_test : {C : Type 0} (t : Bool) → (t ≡ true → C) → (t ≡ false → C) → C
by_test true f g = f refl
by_test false f g = g refl

-- ---- the best so far
-- These laws are of a search that keeps the best so far in two numbers; leading_first and those beside it are of one that keeps an Option.
and_first : (a b : Bool) → cond a b false ≡ true → a ≡ true
and_first true b e = refl
and_first false b e = e

and_second : (a b : Bool) → cond a b false ≡ true → b ≡ true
and_second true b e = e
and_second false b e = absurd (mathlib.Core.Bool.false≢true e)

module _ {n top : ℕ} {p : ℕ → Bool} {key : ℕ → ℕ} {i b low : ℕ} where
  -- the index is the best so far
  leads_take : Leads n top p key i b low → cond (p i) (ltb (key i) low) false ≡ true → Leads n top p key (i + 1) i (key i)
  leads_take h t = subst (λ (k : ℕ). Leads n top p key k i (key i)) (sym (add-one i)) (go h)
    where
      here : p i ≡ true
      here = and_first (p i) (ltb (key i) low) t

      below : key i < low
      below = borrow.Author.Tests.ltb-true (key i) low (and_second (p i) (ltb (key i) low) t)

      go : Leads n top p key i b low → Leads n top p key (suc i) i (key i)
      go (none_yet e q m) = best_yet (first_match p key i e here) (le_refl (suc i)) refl
      go (best_yet e l m) = best_yet (lower p key i b e l here (subst (λ (k : ℕ). key i < k) m below)) (le_refl (suc i)) refl

  -- the best so far stays
  leads_keep : Leads n top p key i b low → key i < top → cond (p i) (ltb (key i) low) false ≡ false → Leads n top p key (i + 1) b low
  leads_keep h small t = subst (λ (k : ℕ). Leads n top p key k b low) (sym (add-one i)) (by_test (p i) (λ e. yes_this e h) (λ e. no_match e h))
    where
      no_match : p i ≡ false → Leads n top p key i b low → Leads n top p key (suc i) b low
      no_match f (none_yet e q m) = none_yet (still_none p key i e f) q m
      no_match f (best_yet e l m) = best_yet (not_this p key i b e l f) (le_step l) m

      above : p i ≡ true → low ≤ key i
      above f = borrow.Author.Tests.ltb-false (key i) low (subst (λ (s : Bool). cond s (ltb (key i) low) false ≡ false) f t)

      yes_this : p i ≡ true → Leads n top p key i b low → Leads n top p key (suc i) b low
      yes_this f (none_yet e q m) = absurd (lt_irrefl (key i) (lt_of_lt_of_le small (subst (λ (k : ℕ). k ≤ key i) m (above f))))
      yes_this f (best_yet e l m) = best_yet (no_lower p key i b e l f (subst (λ (k : ℕ). k ≤ key i) m (above f))) (le_step l) m

  -- the same for what a test r that a call handed over leaves in the loop's two variables
  pub leads_taken : (r : Bool) (b' low' x : ℕ) → Leads n top p key i b low → r ≡ cond (p i) (ltb (key i) low) false → r ≡ true → b' ≡ i → low' ≡ x → x ≡ key i
      → Leads n top p key (i + 1) b' low'
  leads_taken r b' low' x h e t q m is =
      subst (λ (k : ℕ). Leads n top p key (i + 1) k low') (sym q)
      (subst (λ (k : ℕ). Leads n top p key (i + 1) i k) (sym (m ∙ is)) (leads_take h (sym e ∙ t)))

  pub leads_kept : (r : Bool) (b' low' : ℕ) → Leads n top p key i b low → key i < top → r ≡ cond (p i) (ltb (key i) low) false → r ≡ false → b' ≡ b → low' ≡ low
      → Leads n top p key (i + 1) b' low'
  leads_kept r b' low' h small e t q m =
      subst (λ (k : ℕ). Leads n top p key (i + 1) k low') (sym q)
      (subst (λ (k : ℕ). Leads n top p key (i + 1) b k) (sym m) (leads_keep h small (sym e ∙ t)))

  -- the loop came to the end n, which is the m that is asked
  pub leads_end : (m : ℕ) → n ≡ m → n ≤ i → i ≤ n → Leads n top p key i b low → b ≡ least m p key
  leads_end m e a c (none_yet q r s) =
      let is : i ≡ n = le_antisymm c a in
      r ∙ sym is ∙ sym q ∙ ap (λ (k : ℕ). least k p key) (is ∙ e)
  leads_end m e a c (best_yet q l s) = sym q ∙ ap (λ (k : ℕ). least k p key) (le_antisymm c a ∙ e)

  pub leads_within : i ≤ n → Leads n top p key i b low → b ≤ n
  leads_within c (none_yet q r s) = subst (λ (k : ℕ). k ≤ n) (sym r) (le_refl n)
  leads_within c (best_yet q l s) = le_trans (le_of_lt l) c

-- at an equal index
pub leads_at : {n top : ℕ} {p : ℕ → Bool} {key : ℕ → ℕ} {i j b low : ℕ} → i ≡ j → Leads n top p key i b low → Leads n top p key j b low
leads_at {n} {top} {p} {key} {i} {j} {b} {low} e l = subst (λ (k : ℕ). Leads n top p key k b low) e l

pub leads_none : (n top : ℕ) (p : ℕ → Bool) (key : ℕ → ℕ) → Leads n top p key 0 n top
unfolding least
leads_none n top p key = none_yet refl refl refl

-- ---- the best so far, past a group
-- the best so far stays past a group in which none passes
leads_past : {n top : ℕ} {p : ℕ → Bool} {key : ℕ → ℕ} {b low : ℕ} (m i : ℕ) → ((j : ℕ) → key j < top) → Leads n top p key i b low → some_below m (from i p) ≡ false
    → Leads n top p key (i + m) b low
unfolding some_below
leads_past {n} {top} {p} {key} {b} {low} zero i small l h = subst (λ (k : ℕ). Leads n top p key k b low) (sym (add-zero i)) l
leads_past {n} {top} {p} {key} {b} {low} (suc m) i small l h =
    subst (λ (k : ℕ). Leads n top p key k b low) (add-one (i + m) ∙ sym (add-suc i m))
    (leads_keep (leads_past m i small l (or_left (some_below m (from i p)) (p (i + m)) h)) (small (i + m))
    (ap (λ (t : Bool). cond t (ltb (key (i + m)) low) false) (or_right (some_below m (from i p)) (p (i + m)) h)))

-- the same up to r
pub leads_up_to : {n top : ℕ} {p : ℕ → Bool} {key : ℕ → ℕ} {b low : ℕ} (i r : ℕ) → i ≤ r → ((j : ℕ) → key j < top) → Leads n top p key i b low
    → some_below (r - i) (from i p) ≡ false
    → Leads n top p key r b low
leads_up_to {n} {top} {p} {key} {b} {low} i r l small h g =
    subst (λ (k : ℕ). Leads n top p key k b low) whole (leads_past (r - i) i small h g)
  where
    whole : i + (r - i) ≡ r
    whole = omega arith

-- what holds below n and at n holds below suc n
below_suc : (n : ℕ) (C : ℕ → Type 0) → ((j : ℕ) → j < n → C j) → C n → (j : ℕ) → j < suc n → C j
below_suc n C f c j l = ⊎_elim (λ e. subst C (sym e) c) (λ lt. f j lt) (eq-or-lt_of_le (le_of_suc-le-suc l))

never : {C : Type 0} (t : Bool) → t ≡ false → t ≡ true → C
never t a b = absurd (mathlib.Core.Bool.false≢true (sym a ∙ b))

pub least_zero : (p : ℕ → Bool) (key : ℕ → ℕ) → least 0 p key ≡ 0
unfolding least
least_zero p key = refl

pub scanned : (n : ℕ) (p : ℕ → Bool) (key : ℕ → ℕ) → Scanned n p key
scanned zero p key = nothing (least_zero p key) (λ j l. absurd (not-suc-le-zero l))
scanned (suc n) p key = by_test (p n) (λ t. more_yes t (scanned n p key)) (λ f. more_no f (scanned n p key))
  where
    is : (b : ℕ) → least (suc n) p key ≡ b → Lowest (suc n) p key b → Scanned (suc n) p key
    is b e l = found (subst (λ (k : ℕ). Lowest (suc n) p key k) (sym e) l)

    more_no : p n ≡ false → Scanned n p key → Scanned (suc n) p key
    more_no f (nothing e h) = nothing (still_none p key n e f) (below_suc n (λ j. p j ≡ false) h f)
    more_no f (found l) =
        is (least n p key) (not_this p key n (least n p key) refl l.inside f)
        (record {
          inside = le_step l.inside;
          passes = l.passes;
          lowest = below_suc n (λ j. p j ≡ true → key (least n p key) ≤ key j) l.lowest (λ t. never (p n) f t);
          foremost = l.foremost;
        })

    more_yes : p n ≡ true → Scanned n p key → Scanned (suc n) p key
    more_yes t (nothing e h) =
        is n (first_match p key n e t)
        (record {
          inside = le_refl (suc n);
          passes = t;
          lowest = below_suc n (λ j. p j ≡ true → key n ≤ key j) (λ j l s. never (p j) (h j l) s) (λ s. le_refl (key n));
          foremost = λ j l s. never (p j) (h j l) s;
        })
    more_yes t (found l) = by_test (ltb (key n) (key (least n p key))) (λ e. less (borrow.Author.Tests.ltb-true _ _ e)) (λ e. not_less (borrow.Author.Tests.ltb-false _ _ e))
      where
        less : key n < key (least n p key) → Scanned (suc n) p key
        less k =
            is n (lower p key n (least n p key) refl l.inside t k)
            (record {
              inside = le_refl (suc n);
              passes = t;
              lowest = below_suc n (λ j. p j ≡ true → key n ≤ key j) (λ j h s. le_of_lt (lt_of_lt_of_le k (l.lowest j h s))) (λ s. le_refl (key n));
              foremost = λ j h s. lt_of_lt_of_le k (l.lowest j h s);
            })

        not_less : key (least n p key) ≤ key n → Scanned (suc n) p key
        not_less k =
            is (least n p key) (no_lower p key n (least n p key) refl l.inside t k)
            (record {
              inside = le_step l.inside;
              passes = l.passes;
              lowest = below_suc n (λ j. p j ≡ true → key (least n p key) ≤ key j) l.lowest (λ s. k);
              foremost = l.foremost;
            })
