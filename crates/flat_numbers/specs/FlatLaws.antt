-- A fresh load is one; and the last phase's test, by a told answer that a call handed over.
use Rattle.std.specs.Prelude.{◌≡◌, false, not, List, ℕ, ◌≤◌, eqb}
use Rattle.std.proofs.Common.{sym, ◌∙◌, ap}
use Rattle.laws.specs.Chain.{pass_lt, hit_eq}
use Rattle.flat_numbers.specs.Flat.{is_state, FreshLoad}

pub one_fresh_load : (a b : List ℕ) → FreshLoad a → FreshLoad b → a ≡ b
one_fresh_load a b p q = p.numbers ∙ sym q.numbers

pub told_state : (phase told table t : ℕ) → t ≡ told → phase ≤ 5 → phase ≡ 5 → not (eqb t 0xFFFFFFFF) ≡ is_state phase told table
told_state phase told table t e h q =
    ap (λ (x : ℕ). not (eqb x 0xFFFFFFFF)) e ∙ pass_lt 5 phase _ false _ h (hit_eq phase 5 (not (eqb told 0xFFFFFFFF)) _ q)
