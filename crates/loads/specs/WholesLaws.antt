-- Every outcome that is permitted for a whole load goes one of its ways, and one for C and Rust is one of a whole load, by its number.
use Rattle.std.specs.Prelude.{◌≡◌, refl, List, ℕ}
use Rattle.std.proofs.Common.{sym, ◌∙◌, ap, subst}
use Rattle.stream.specs.declared.Answer.{Answer}
use Rattle.stream.specs.Paper.{Whole, loaded_words, loaded_bytes}
use Rattle.stream.specs.Leaves.{Ends}
use Rattle.flat_numbers.specs.Flat.{number_of}
use Rattle.loads.specs.Moves.{WholeWay}
use Rattle.loads.specs.WaysLaws.{words_way, bytes_way}
use Rattle.loads.specs.Wholes.{WholeLoad, of_words, of_bytes, WholeLoadFlat, of_words_flat, of_bytes_flat}

abbrev ends : Answer → List ℕ → Whole
ends answer after = record { answer = answer; buffer = after }

is : {w : Whole} {answer : Answer} {after : List ℕ} → Ends w answer after → w ≡ ends answer after
is {w} {answer} {after} e = ap (λ (a : Answer). ends a w.buffer) (sym e.told) ∙ ap (λ (b : List ℕ). ends answer b) (sym e.kept)

-- an outcome permitted for a whole load goes one of its ways
pub whole_way : {buffer : List ℕ} {answer : Answer} {after : List ℕ} → WholeLoad buffer answer after → WholeWay buffer (ends answer after)
whole_way {buffer} (of_words words e) = subst (λ (w : Whole). WholeWay buffer w) (is e) (words_way buffer words)
whole_way {buffer} (of_bytes bytes e) = subst (λ (w : Whole). WholeWay buffer w) (is e) (bytes_way buffer bytes)

-- the answer behind a number, and that its outcome is permitted
pub answer_behind : {buffer : List ℕ} {r : ℕ} {after : List ℕ} → WholeLoadFlat buffer r after
    → (answer : Answer) × WholeLoad buffer answer after × (r ≡ number_of answer)
answer_behind {buffer} (of_words_flat words e) = ((loaded_words buffer words).answer, of_words words (record { told = refl; said = refl; kept = e.kept }), e.told)
answer_behind {buffer} (of_bytes_flat bytes e) = ((loaded_bytes buffer bytes).answer, of_bytes bytes (record { told = refl; said = refl; kept = e.kept }), e.told)
