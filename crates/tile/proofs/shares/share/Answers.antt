-- `tile::shares::share`: one division.
use Rattle.std.proofs.Common.{Float, ap, ◌∙◌}
use Rattle.std.specs.Float.Ieee.{binary64, div}
use Rattle.tile.specs.Tiles.{share_of}
use Rattle.tile.proofs.shares.share.Goals as goal

pub returns : goal.returns
unfolding share_of
returns c = ap (λ (x : Float). div binary64 x c.as_float-2.result) c.as_float.ensures ∙ ap (div binary64 _) c.as_float-2.ensures
