-- A rule of a table, proved at all of its entries by one test that the checker computes, one entry after the other.
use Rattle.std.specs.Prelude.{◌≡◌, Bool, true, false, List, [], ◌∷◌, ℕ, zero, suc, ◌+◌, ◌<◌, T, eqb, length, get_or}
use Rattle.std.proofs.Common.{◌∙◌, subst, sym, ap, add-zero, zero-add, add-suc, suc-add, le_of_suc-le-suc, not-suc-le-zero, eqb→eq}
use Rattle.laws.specs.Table.{both, holds}

pub both_left : (a b : Bool) → T (both a b) → T a
both_left true b t = tt
both_left false b t = t

pub both_right : (a b : Bool) → T (both a b) → T b
both_right true b t = t
both_right false b t = absurd t

from : (f : ℕ → ℕ) (xs : List ℕ) (i : ℕ) → T (holds f i xs) → (k : ℕ) → k < length xs → get_or xs k 0 ≡ f (i + k)
from f [] i t k h = absurd (not-suc-le-zero h)
from f (x ∷ xs) i t zero h =
    eqb→eq x (f i) (both_left (eqb x (f i)) (holds f (suc i) xs) t) ∙ sym (ap f (add-zero i))
from f (x ∷ xs) i t (suc k) h =
    subst (λ (m : ℕ). get_or xs k 0 ≡ f m) (suc-add i k ∙ sym (add-suc i k))
    (from f xs (suc i) (both_right (eqb x (f i)) (holds f (suc i) xs) t) k (le_of_suc-le-suc h))

-- a table that holds f of each place gives f of an index at that index
pub tested : (f : ℕ → ℕ) (xs : List ℕ) → T (holds f 0 xs) → (k : ℕ) → k < length xs → get_or xs k 0 ≡ f k
tested f xs t k h = subst (λ (m : ℕ). get_or xs k 0 ≡ f m) (zero-add k) (from f xs 0 t k h)
