-- `addresses::barred`: none of the entries that the loop has passed bars the source.
use Rattle.std.proofs.Common.{◌≡◌, false, ◌-◌, ◌≤◌}
use Rattle.laws.specs.Scan.{some_below}
use Rattle.image.specs.Layout.{image_in}
use Rattle.addresses.specs.Address.{bars}
use Rattle.addresses.proofs.barred.Given as goal

abbrev pub invariant-loop-group : goal.invariant-loop-group
invariant-loop-group l = (l.passed ≤ l.search.len) × (some_below l.passed (bars (image_in l.search.image.now) l.port l.search.vlan l.search.mac) ≡ false)

abbrev pub decreases-loop-group : goal.decreases-loop-group
decreases-loop-group l = l.search.len - l.passed
