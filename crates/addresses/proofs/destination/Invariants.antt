-- `addresses::destination`: the loop holds the match with the lowest INDEX among the entries that it has passed.
use Rattle.std.proofs.Common.{◌-◌, ◌≤◌}
use Rattle.image.specs.Layout.{image_in}
use Rattle.addresses.specs.Leading.{Kept}
use Rattle.addresses.proofs.destination.Given as goal

abbrev pub invariant-loop-group : goal.invariant-loop-group
invariant-loop-group l = (l.passed ≤ l.search.len) × Kept (image_in l.search.image.now) l.search.vlan l.search.mac l.passed l.best

abbrev pub decreases-loop-group : goal.decreases-loop-group
decreases-loop-group l = l.search.len - l.passed
