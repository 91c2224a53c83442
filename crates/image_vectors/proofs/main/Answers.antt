-- `image_vectors::main`: a load begins over zeros, and each step keeps what a load keeps.
use Rattle.std.proofs.Common.{rules, ◌∙◌, ap, ℕ, length}
use Rattle.std.proofs.lemmas.List.{length-replicate}
use Rattle.image.specs.Layout.{image_words}
use Rattle.image_vectors.specs.Fit.{starts, goes_on}
use Rattle.image_vectors.proofs.main.Goals as goal
use Rattle.image_vectors.proofs.main.Goals.{then-branch, else-branch}

pub loop-four-init : goal.loop-four-init
loop-four-init c = search (rules, starts)

pub loop-four-preserved : goal.loop-four-preserved
loop-four-preserved c = elim c.if-branch.branch [
  | then-branch w ↦ (ap length w.image-is ∙ length-replicate {A = ℕ} image_words 0, starts _ _ (w.load-is ∙ w.fresh-load-then-branch.ensures) w.image-is)
  | else-branch w ↦ (ap length w.image-is ∙ w.step-load.auto.image ∙ c.loop-four.invariant.0, goes_on _ _ _ _ _ _ _ c.loop-four.invariant.1 w.step-load.ensures w.load-is w.image-is)
]
