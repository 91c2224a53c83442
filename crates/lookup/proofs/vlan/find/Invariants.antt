-- `lookup::vlan::find`: none of the entries that the loop has passed has the VLANID, so where it stops is the first.
use Rattle.std.proofs.Common.{◌≡◌}
use Rattle.laws.specs.Scan.{first}
use Rattle.image.specs.Layout.{image_in}
use Rattle.lookup.specs.Vlan.{has_vlan}
use Rattle.lookup.proofs.vlan.find.Given as goal

abbrev pub invariant-loop-i : goal.invariant-loop-i
invariant-loop-i l = first l.i (has_vlan (image_in l.image) l.vlanid) ≡ l.i
