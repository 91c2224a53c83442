-- How 39 is asked: numbers are or-ed whose top bit tells that a value is above its most, and the clauses have an order of their own.
use Rattle.std.specs.Prelude.{◌≡◌, ℕ, zero, suc, ◌+◌, ◌/◌, ◌%◌, ◌^◌, ◌<◌, ◌≤◌, Bool, true, false, cond, ◌||◌, ltb, List, ◌==◌, bit_or, nat_eq, nat_lt, refl}
use Rattle.std.proofs.Common.{sym, ◌∙◌, ap, subst, le_antisymm, arith, lt-ltb, le-ltb}
use Rattle.std.proofs.lemmas.Nat.{or_shr}
use Rattle.laws.specs.Chain.{pass_lt, of_le}
use Rattle.laws.specs.Scan.{some_below, flag}
use Rattle.laws.specs.ScanLaws.{some_more}
use Rattle.image.specs.Layout.{count_of}
use Rattle.image.specs.declared.tables.Table.TheVariants.{Policing}
use Rattle.ledger.specs.Row.{credit, since, last, many, cell}
use Rattle.ledger.specs.Range.{latest, units_over, full_of, credit_over, tiles_off, times_over, out_of_range}
use Rattle.ledger.specs.Above.{Tells, meter_over, meter_off}

-- a difference that wraps, or-ed with what was taken away: v above its most
pub tells_above : (most v less : ℕ) → most < 2 ^ 63 → v < 2 ^ 64 → less < 2 ^ 64 → (less + v) % 2 ^ 64 ≡ most → Tells (nat_lt most v) (bit_or less v)
tells_above most v less m lv ll e = record { top = or_shr less v 63 ∙ by (less / 2 ^ 63) (v / 2 ^ 63) refl refl }
  where
    by : (x y : ℕ) → x ≡ less / 9223372036854775808 → y ≡ v / 9223372036854775808 → bit_or x y ≡ flag (nat_lt most v)
    by zero zero p q = sym (ap flag (le-ltb most v (omega arith)))
    by zero (suc zero) p q = sym (ap flag (lt-ltb most v (omega arith)))
    by (suc zero) zero p q = sym (ap flag (lt-ltb most v (omega arith)))
    by (suc zero) (suc zero) p q = sym (ap flag (lt-ltb most v (omega arith)))
    by (suc (suc x)) y p q = absurd (omega arith)
    by zero (suc (suc y)) p q = absurd (omega arith)
    by (suc zero) (suc (suc y)) p q = absurd (omega arith)

-- and of what a call says that its most is
pub tells_of : (most f v x : ℕ) → most ≡ f → Tells (nat_lt most v) x → Tells (nat_lt f v) x
tells_of most f v x e t = subst (λ (m : ℕ). Tells (nat_lt m v) x) e t

-- one or the other
pub tells_either : (a b : Bool) (x y : ℕ) → Tells a x → Tells b y → Tells (a || b) (bit_or x y)
tells_either a b x y t u =
    record { top = or_shr x y 63 ∙ ap (λ (k : ℕ). bit_or k (y / 2 ^ 63)) t.top ∙ ap (bit_or (flag a)) u.top ∙ by a b }
  where
    by : (a b : Bool) → bit_or (flag a) (flag b) ≡ flag (a || b)
    by true true = refl
    by true false = refl
    by false true = refl
    by false false = refl

-- a loop that ors such numbers: nothing yet, one turn more, the end
pub tells_none : (p : ℕ → Bool) → Tells (some_below 0 p) 0
unfolding some_below
tells_none p = record { top = refl }

pub tells_more : (p : ℕ → Bool) (k all one : ℕ) → Tells (some_below k p) all → Tells (p k) one → Tells (some_below (k + 1) p) (bit_or all one)
tells_more p k all one t u = subst (λ (b : Bool). Tells b (bit_or all one)) (sym (some_more k p)) (tells_either (some_below k p) (p k) all one t u)

pub tells_end : (p : ℕ → Bool) (n k all : ℕ) → Tells (some_below k p) all → n ≤ k → k ≤ n → (all / 2 ^ 63 == 1) ≡ some_below n p
tells_end p n k all t a b = ap (λ (x : ℕ). nat_eq x 1) t.top ∙ back (some_below k p) ∙ ap (λ (i : ℕ). some_below i p) (le_antisymm b a)
  where
    back : (b : Bool) → (flag b == 1) ≡ b
    back true = refl
    back false = refl

-- two scans in one pass
some_either : (n : ℕ) (p q : ℕ → Bool) → some_below n (λ k. p k || q k) ≡ (some_below n p || some_below n q)
unfolding some_below
some_either zero p q = refl
some_either (suc n) p q = ap (λ (t : Bool). t || (p n || q n)) (some_either n p q) ∙ by (some_below n p) (some_below n q) (p n) (q n)
  where
    by : (a b c d : Bool) → ((a || b) || (c || d)) ≡ ((a || c) || (b || d))
    by true b c d = refl
    by false true true d = refl
    by false true false d = refl
    by false false true d = refl
    by false false false d = refl

pub meter_more : (image g : List ℕ) (k all one most : ℕ) → Tells (some_below k (meter_off image g)) all → Tells (meter_over g k most) one → most ≡ full_of image k
    → Tells (some_below (k + 1) (meter_off image g)) (bit_or all one)
unfolding meter_off
meter_more image g k all one most t u e = tells_more (meter_off image g) k all one t (subst (λ (m : ℕ). Tells (meter_over g k m) one) e u)

-- a meter with no entry loaded holds nothing when it is full
pub not_loaded_lem : (image : List ℕ) (k n : ℕ) → n ≡ count_of image Policing → n ≤ k → 0 ≡ full_of image k
not_loaded_lem image k n e h = pass_lt k (count_of image Policing) 0 _ 0 (of_le k (count_of image Policing) n e h) refl

-- credit and times in one pass
pub meters_end : (image g : List ℕ) (k all : ℕ) → Tells (some_below k (meter_off image g)) all → many credit ≤ k → k ≤ many credit
    → (all / 2 ^ 63 == 1) ≡ (credit_over image g || times_over g)
unfolding meter_off
meters_end image g k all t a b =
    tells_end (meter_off image g) (many credit) k all t a b
    ∙ some_either (many credit) (λ i. ltb (full_of image i) (cell g credit i)) (λ i. ltb (cell g last 0) (cell g since i))

-- the last time first, which bounds what the meters' times are held to, and the meters last
pub as_asked : (image g : List ℕ) (v : Bool)
    → v ≡ cond (nat_lt latest (cell g last 0)) true (cond (units_over image g) true (cond (tiles_off g) true (credit_over image g || times_over g)))
    → v ≡ out_of_range image g
unfolding out_of_range
as_asked image g v e = e ∙ by (units_over image g) (tiles_off g) (credit_over image g) (times_over g) (nat_lt latest (cell g last 0))
  where
    by : (u t c m l : Bool) → cond l true (cond u true (cond t true (c || m))) ≡ cond u true (cond c true (cond t true (cond m true l)))
    by true t c m true = refl
    by true t c m false = refl
    by false true true m true = refl
    by false true true m false = refl
    by false true false m true = refl
    by false true false m false = refl
    by false false true m true = refl
    by false false true m false = refl
    by false false false true true = refl
    by false false false true false = refl
    by false false false false true = refl
    by false false false false false = refl
