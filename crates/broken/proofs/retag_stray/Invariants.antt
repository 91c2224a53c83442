-- `broken::retag_stray`: no entry of 12 that the loop has passed has a VLAN that is missing.
use Rattle.std.proofs.Common.{◌≡◌, false}
use Rattle.laws.specs.Scan.{some_below}
use Rattle.image.specs.Layout.{image_in}
use Rattle.broken.specs.Broken.{stray}
use Rattle.broken.proofs.retag_stray.Given as goal

abbrev pub invariant-loop-i : goal.invariant-loop-i
invariant-loop-i l = some_below l.i (stray (image_in l.image)) ≡ false
