-- `loaded::over_limit`: no row that the loop has passed has a count above its limit.
use Rattle.std.proofs.Common.{◌≡◌, Bool, false, List, ℕ}
use Rattle.laws.specs.Scan.{some_below}
use Rattle.image.specs.Rows.{row_at}
use Rattle.image.specs.Layout.{image_in}
use Rattle.image.specs.Loaded.{above}
use Rattle.loaded.proofs.over_limit.Given as goal

abbrev pub over : List ℕ → ℕ → Bool
over image k = above (image_in image) (row_at k).table

abbrev pub invariant-loop-place : goal.invariant-loop-place
invariant-loop-place l = some_below l.place (over l.image) ≡ false
