-- A cell of a row after a store into its part.
use Rattle.std.specs.Prelude.{◌≡◌, ◌⊎◌, List, ℕ, ◌+◌, ◌<◌, length, get_or, set}
use Rattle.std.proofs.Common.{sym, subst, inl, inr, ⊎_elim, get_or-set_same}
use Rattle.std.proofs.Math.Decide.{ℕ_discrete}
use Rattle.ledger.proofs.Laws.{other_place}

pub same_or_not : (a b : ℕ) → (a ≡ b) ⊎ (a ≡ b → ⊥)
same_or_not a b = decide (ℕ_discrete a b)
  where
    decide : Dec (a ≡ b) → (a ≡ b) ⊎ (a ≡ b → ⊥)
    decide (yes e) = inl e
    decide (no e) = inr e

-- what holds of the value that is stored at i of the part from a on, and of its cell j before, holds of its cell j afterwards
pub same_part : (P : ℕ → ℕ → Type 0) (g : List ℕ) (a i v j : ℕ) → a + i < length g → P i v → P j (get_or g (a + j) 0) → P j (get_or (set g (a + i) v) (a + j) 0)
same_part P g a i v j h new old =
    ⊎_elim (λ e. subst (λ (k : ℕ). P k (get_or (set g (a + i) v) (a + k) 0)) e (subst (P i) (sym (get_or-set_same g (a + i) v 0 h)) new))
    (λ ne. subst (P j) (sym (other_place g a i j v ne)) old) (same_or_not i j)
