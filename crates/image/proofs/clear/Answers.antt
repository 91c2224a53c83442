-- `image::clear`: what `fill` writes is `cleared`'s.
use Rattle.std.proofs.Common.{◌∙◌, ap, List, ◌++◌, ℕ, drop, length-take, replicate}
use Rattle.std.proofs.Math.Nat.{min-eq_left}
use Rattle.image.specs.Layout.{image_words, cleared}
use Rattle.image.proofs.clear.Goals as goal

pub returns : goal.returns
unfolding cleared
returns c =
    ap (λ (ws : List ℕ). ws ++ drop image_words c.args.image.now)
    (c.fill.ensures.after (λ y e. e) ∙ ap (λ (n : ℕ). replicate n 0) (length-take image_words c.args.image.now ∙ min-eq_left c.requires))
