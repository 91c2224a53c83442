-- Equal shares are equal numbers; and the numbers of a verdict and a tile are what they say in document 01's terms.
use Rattle.std.specs.Prelude.{◌≡◌, ℕ}
use Rattle.std.proofs.Common.{◌∙◌, ap}
use Rattle.flat_answers.specs.Answers.{shown}

pub shown_as : (a b c d : ℕ) → a ≡ b → c ≡ d → shown 3 0 a c ≡ shown 3 0 b d
shown_as a b c d e h = ap (λ (x : ℕ). shown 3 0 x c) e ∙ ap (λ (x : ℕ). shown 3 0 b x) h
