-- The promise of a write and of a whole load permits one outcome.
use Rattle.std.specs.Prelude.{◌≡◌, List, ℕ}
use Rattle.std.proofs.Common.{sym, ◌∙◌, ap}
use Rattle.stream.specs.Paper.{Whole, loaded_words, loaded_bytes}
use Rattle.stream.specs.Leaves.{Writes, Ends, EndsWords, EndsBytes}
use Rattle.stream.specs.declared.Answer.{Answer}
use Rattle.stream.specs.declared.Load.{Load}
use Rattle.stream.specs.declared.states.Wrote.{Wrote}

pub one_write : (load : Load) (buffer words : List ℕ) (r s : Wrote) (a b : List ℕ) → Writes load buffer words r a → Writes load buffer words s b → (r ≡ s) × (a ≡ b)
one_write load buffer words r s a b p q = (
  ap (λ (x : Answer). record { answer = x; load = r.load }) (p.answer ∙ sym q.answer)
      ∙ ap (λ (x : Load). record { answer = s.answer; load = x }) (p.state ∙ sym q.state),
  p.kept ∙ sym q.kept,
)

one_end : (w : Whole) (r s : Answer) (a b : List ℕ) → Ends w r a → Ends w s b → (r ≡ s) × (a ≡ b)
one_end w r s a b p q = (p.told ∙ sym q.told, p.kept ∙ sym q.kept)

pub one_load_of_words : (buffer words : List ℕ) (r s : Answer) (a b : List ℕ) → EndsWords buffer words r a → EndsWords buffer words s b → (r ≡ s) × (a ≡ b)
one_load_of_words buffer words = one_end (loaded_words buffer words)

pub one_load_of_bytes : (buffer bytes : List ℕ) (r s : Answer) (a b : List ℕ) → EndsBytes buffer bytes r a → EndsBytes buffer bytes s b → (r ≡ s) × (a ≡ b)
one_load_of_bytes buffer bytes = one_end (loaded_bytes buffer bytes)
