-- Laws of a search's answer.
use Rattle.std.specs.Prelude.{◌≡◌, refl, Bool, true, false, cond, ℕ, ◌<◌, eqb, Some, None}
use Rattle.std.proofs.Common.{sym, ◌∙◌, ap, eq-eqb, ne_eqb, arith}
use Rattle.std.proofs.lemmas.Bool.{eqb-false}
use Rattle.lookup.specs.Found.{found}

-- the scan came to its end
pub none_found : (n i : ℕ) → i ≡ n → None ≡ found n i
none_found n i e = sym (ap (λ (t : Bool). cond t None (Some i)) (eq-eqb i n e))

-- k is what the scan gives, and lies before its end
pub some_found : (n i k : ℕ) → k ≡ i → k < n → Some k ≡ found n i
some_found n i k e l = ap Some e ∙ sym (ap (λ (t : Bool). cond t None (Some i)) (ne_eqb i n other))
  where
    other : i ≡ n → ⊥
    other h = omega arith

-- ---- what an answer tells
pub at_none : (n i : ℕ) → None ≡ found n i → i ≡ n
at_none n i e = by (eqb i n) refl e
  where
    by : (t : Bool) → t ≡ eqb i n → None ≡ cond t None (Some i) → i ≡ n
    by true q h = borrow.Author.Tests.eqb-true i n (sym q)
    by false q h = cc

pub at_some : (n i k : ℕ) → Some k ≡ found n i → (k ≡ i) × (i ≡ n → ⊥)
at_some n i k e = by (eqb i n) refl e
  where
    by : (t : Bool) → t ≡ eqb i n → Some k ≡ cond t None (Some i) → (k ≡ i) × (i ≡ n → ⊥)
    by true q h = cc
    by false q h = (cc, eqb-false i n (sym q))
