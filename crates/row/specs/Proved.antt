-- What pins a release: it gives back one unit, its promise permits one outcome, and a buffer's rest has no part in it.
use Rattle.std.specs.Prelude.{◌≡◌, refl, ℕ, eqb}
use Rattle.std.proofs.Common.{sym, ◌∙◌}
use Rattle.std.proofs.Math.Path.{ap}
use Rattle.std.proofs.Math.Bool.{cond}
use mathlib.Core.List.{List, [], ◌∷◌}
use Rattle.image.specs.Layout.{image_in}
use Rattle.image.specs.Loaded.{too_short}
use Rattle.ledger.specs.Answers.{Answer}
use Rattle.ledger.specs.Range.{standing}
use Rattle.ledger.specs.Proved.{same_standing}
use Rattle.row.specs.Release.{unreleased, release_refusal, given_to, released, Released}

-- "gives back one unit"
pub gives_one : given_to (5 ∷ []) 0 ≡ 6 ∷ []
gives_one = refl

-- the promise permits one outcome
pub one_release : (buffer g : List ℕ) (partition : ℕ) (r s : Answer) (a b : List ℕ) → Released buffer g partition r a → Released buffer g partition s b
    → (r ≡ s) × (a ≡ b)
one_release buffer g partition r s a b p q = (p.answer ∙ sym q.answer, p.row ∙ sym q.row)

-- two buffers that are both long enough, or both too short, with one image, get one outcome
module _ (a b : List ℕ) (long : too_short a ≡ too_short b) (image : image_in a ≡ image_in b) where
  pub same_refusal : (g : List ℕ) (partition : ℕ) → release_refusal a g partition ≡ release_refusal b g partition
  unfolding release_refusal
  same_refusal g partition =
      ap (λ (n : ℕ). cond (eqb n 0) (unreleased (image_in a) g partition) n) (same_standing a b long image g)
      ∙ ap (λ (i : List ℕ). cond (eqb (standing b g) 0) (unreleased i g partition) (standing b g)) image

  pub same_release : (g : List ℕ) (partition : ℕ) → released a g partition ≡ released b g partition
  unfolding released
  same_release g partition = ap (λ (n : ℕ). cond (eqb n 0) (given_to g partition) g) (same_refusal g partition)
