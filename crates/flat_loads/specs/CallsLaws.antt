-- Each promise of a write by numbers and of a whole load permits one outcome.
use Rattle.std.specs.Prelude.{◌≡◌, List, ℕ}
use Rattle.std.proofs.Common.{sym, ◌∙◌}
use Rattle.stream.specs.Paper.{Whole, loaded_words, loaded_bytes}
use Rattle.flat_loads.specs.Calls.{WritesFlat, EndsFlat, LoadsWords, LoadsBytes}

pub one_write : (numbers buffer words : List ℕ) (r s : ℕ) (a b k m : List ℕ) → WritesFlat numbers buffer words r a k → WritesFlat numbers buffer words s b m
    → (r ≡ s) × (a ≡ b) × (k ≡ m)
one_write numbers buffer words r s a b k m p q = (p.answer ∙ sym q.answer, p.state ∙ sym q.state, p.image ∙ sym q.image)

one_end : (w : Whole) (r s : ℕ) (a b : List ℕ) → EndsFlat w r a → EndsFlat w s b → (r ≡ s) × (a ≡ b)
one_end w r s a b p q = (p.told ∙ sym q.told, p.kept ∙ sym q.kept)

pub one_words : (buffer words : List ℕ) (r s : ℕ) (a b : List ℕ) → LoadsWords buffer words r a → LoadsWords buffer words s b → (r ≡ s) × (a ≡ b)
one_words buffer words = one_end (loaded_words buffer words)

pub one_bytes : (buffer bytes : List ℕ) (r s : ℕ) (a b : List ℕ) → LoadsBytes buffer bytes r a → LoadsBytes buffer bytes s b → (r ≡ s) × (a ≡ b)
one_bytes buffer bytes = one_end (loaded_bytes buffer bytes)
