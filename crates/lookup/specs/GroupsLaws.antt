-- Laws of a search that looks at a group of entries at once: what is found in the group is found in the scan.
use Rattle.std.specs.Prelude.{◌≡◌, refl, Bool, true, false, not, ◌||◌, ℕ, zero, suc, ◌+◌, ◌-◌, ◌/◌, ◌^◌, ◌≤◌, eqb}
use Rattle.std.proofs.Common.{sym, ◌∙◌, ap, subst, true≢false, add-zero, add-suc, add-one, arith}
use Rattle.std.specs.Int.Bits.{bit_and}
use Rattle.std.proofs.lemmas.Nat.{and_shr}
use Rattle.laws.specs.Scan.{some_below, first, flag}
use Rattle.laws.specs.ScanLaws.{some_more, first_more}
use Rattle.lookup.specs.Groups.{from, Clear}

pub clear_none : (p : ℕ → Bool) → Clear p 0 2147483648
unfolding some_below
clear_none p = refl

pub clear_more : (p : ℕ → Bool) (k all one : ℕ) → Clear p k all → one / 2 ^ 31 ≡ flag (not (p k)) → Clear p (k + 1) (bit_and all one)
clear_more p k all one c e =
    and_shr all one 31
    ∙ ap (λ (x : ℕ). bit_and x (one / 2 ^ 31)) c
    ∙ ap (λ (x : ℕ). bit_and (flag (not (some_below k p))) x) e
    ∙ both (some_below k p) (p k)
    ∙ sym (ap (λ (t : Bool). flag (not t)) (some_more k p))
  where
    both : (a b : Bool) → bit_and (flag (not a)) (flag (not b)) ≡ flag (not (a || b))
    both true true = refl
    both true false = refl
    both false true = refl
    both false false = refl

pub clear_end : (p : ℕ → Bool) (n k all : ℕ) → k ≡ n → Clear p k all → eqb (all / 2 ^ 31) 1 ≡ not (some_below n p)
clear_end p n k all e c =
    ap (λ (x : ℕ). eqb x 1) c ∙ back (some_below k p) ∙ ap (λ (x : ℕ). not (some_below x p)) e
  where
    back : (b : Bool) → eqb (flag (not b)) 1 ≡ not b
    back true = refl
    back false = refl

-- ---- none of a group
pub or_left : (a b : Bool) → a || b ≡ false → a ≡ false
or_left true b e = e
or_left false b e = refl

pub or_right : (a b : Bool) → a || b ≡ false → b ≡ false
or_right true b e = absurd (true≢false e)
or_right false b e = e

-- what none passes, none passes that asks more
pub none_more : (n : ℕ) (p q : ℕ → Bool) → ((k : ℕ) → p k ≡ false → q k ≡ false) → some_below n p ≡ false → some_below n q ≡ false
unfolding some_below
none_more zero p q f h = refl
none_more (suc n) p q f h =
    ap (λ (t : Bool). t || q n) (none_more n p q f (or_left (some_below n p) (p n) h)) ∙ f n (or_right (some_below n p) (p n) h)

-- the same from the test's own answer
pub not_none : (b : Bool) → not b ≡ true → b ≡ false
not_none true e = absurd (true≢false (sym e))
not_none false e = refl

-- a scan in two parts
some_parts : (m n : ℕ) (p : ℕ → Bool) → some_below (n + m) p ≡ some_below n p || some_below m (from n p)
unfolding some_below
some_parts zero n p = ap (λ (k : ℕ). some_below k p) (add-zero n) ∙ sym (or_nothing (some_below n p))
  where
    or_nothing : (a : Bool) → a || false ≡ a
    or_nothing true = refl
    or_nothing false = refl
some_parts (suc m) n p =
    ap (λ (k : ℕ). some_below k p) (add-suc n m)
    ∙ ap (λ (t : Bool). t || p (n + m)) (some_parts m n p)
    ∙ or_assoc (some_below n p) (some_below m (from n p)) (p (n + m))
  where
    or_assoc : (a b c : Bool) → (a || b) || c ≡ a || (b || c)
    or_assoc true b c = refl
    or_assoc false b c = refl

-- none so far: what is left decides
pub some_rest : (m n : ℕ) (p : ℕ → Bool) → some_below n p ≡ false → some_below (n + m) p ≡ some_below m (from n p)
some_rest m n p h = some_parts m n p ∙ ap (λ (t : Bool). t || some_below m (from n p)) h

-- none so far, and none in the group
pub none_yet : (p : ℕ → Bool) (n m : ℕ) → some_below n p ≡ false → some_below m (from n p) ≡ false → some_below (n + m) p ≡ false
none_yet p n m h g = some_rest m n p h ∙ g

-- none from i on so far, and none in the group that follows
pub none_further : (p : ℕ → Bool) (i j m : ℕ) → i ≤ j → some_below (j - i) (from i p) ≡ false → some_below m (from j p) ≡ false
    → some_below (j + m - i) (from i p) ≡ false
none_further p i j m l h g =
    ap (λ (k : ℕ). some_below k (from i p)) more
    ∙ none_yet (from i p) (j - i) m h (none_more m (from j p) (from (j - i) (from i p)) (λ k q. ap p (there k) ∙ q) g)
  where
    more : j + m - i ≡ j - i + m
    more = omega arith

    there : (k : ℕ) → i + (j - i + k) ≡ j + k
    there k = omega arith

-- none before i, and none from i to r
pub none_up_to : (p : ℕ → Bool) (i r : ℕ) → i ≤ r → some_below i p ≡ false → some_below (r - i) (from i p) ≡ false → some_below r p ≡ false
none_up_to p i r l h g = ap (λ (k : ℕ). some_below k p) whole ∙ none_yet p i (r - i) h g
  where
    whole : r ≡ i + (r - i)
    whole = omega arith

-- a group that lies in the scan and has one
pub some_in : (m n k : ℕ) (p : ℕ → Bool) → n + k ≤ m → some_below k (from n p) ≡ true → some_below m p ≡ true
some_in m n k p l h =
    ap (λ (j : ℕ). some_below j p) whole
    ∙ some_parts (m - (n + k)) (n + k) p
    ∙ ap (λ (t : Bool). t || some_below (m - (n + k)) (from (n + k) p)) (some_parts k n p ∙ ap (λ (t : Bool). some_below n p || t) h ∙ or_one (some_below n p))
  where
    whole : m ≡ n + k + (m - (n + k))
    whole = omega arith

    or_one : (a : Bool) → a || true ≡ true
    or_one true = refl
    or_one false = refl

-- the first is not before the group, and not in it
pub first_past : (m n : ℕ) (p : ℕ → Bool) → first n p ≡ n → some_below m (from n p) ≡ false → first (n + m) p ≡ n + m
unfolding some_below
first_past zero n p e h = subst (λ (k : ℕ). first k p ≡ k) (sym (add-zero n)) e
first_past (suc m) n p e h =
    subst (λ (k : ℕ). first k p ≡ k) (add-one (n + m) ∙ sym (add-suc n m))
    (first_more (n + m) p (first_past m n p e (or_left (some_below m (from n p)) (p (n + m)) h)) (or_right (some_below m (from n p)) (p (n + m)) h))
