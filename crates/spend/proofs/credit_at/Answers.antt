-- `spend::credit_at`: a step's gain is RATE times what a RATE of 1 gains.
use Rattle.std.proofs.Common.{◌≡◌, ◌+◌, ◌*◌, ℕ, min, sym, ap, ◌∙◌, mul_assoc}
use Rattle.spend.proofs.credit_at.Goals as goal

by_steps : (full old elapsed passed rate step grown : ℕ) → grown ≡ min full (old + elapsed * (rate * step)) → elapsed ≡ passed → grown ≡ min full (old + passed * rate * step)
by_steps full old elapsed passed rate step grown e p =
    e
    ∙ ap (λ (x : ℕ). min full (old + x * (rate * step))) p
    ∙ ap (λ (x : ℕ). min full (old + x)) (sym (mul_assoc passed rate step))

pub returns : goal.returns
returns c = by_steps _ _ _ _ _ _ _ c.grown.ensures.0 c.saturating_sub.ensures
