-- `lookup::groups::passed`: no entry of the groups that the loop has passed has the number.
use Rattle.std.proofs.Common.{◌≡◌, false, ◌-◌, ◌≤◌}
use Rattle.laws.specs.Scan.{some_below}
use Rattle.image.specs.Layout.{image_in}
use Rattle.lookup.specs.Groups.{from, like}
use Rattle.lookup.proofs.groups.passed.Given as goal

abbrev pub invariant-loop-start : goal.invariant-loop-start
invariant-loop-start g l =
    (l.i ≤ l.start) × (l.start ≤ l.n) × (some_below (l.start - l.i) (from l.i (like (g.C.Column.number (image_in l.image)) l.key)) ≡ false)

abbrev pub decreases-loop-start : goal.decreases-loop-start
decreases-loop-start g l = l.n - l.start
