-- `broken::vlan_missing`: each port that the loop has passed has its VLAN in 07.
use Rattle.std.proofs.Common.{◌≡◌, Bool, false, List, ℕ}
use Rattle.laws.specs.Scan.{some_below}
use Rattle.image.specs.Layout.{image_in}
use Rattle.fields.specs.Fields.{port_vlanid}
use Rattle.broken.specs.Broken.{no_vlan}
use Rattle.broken.proofs.vlan_missing.Given as goal

abbrev pub missing : List ℕ → ℕ → Bool
missing image port = no_vlan image (port_vlanid image port)

abbrev pub invariant-loop-port : goal.invariant-loop-port
invariant-loop-port l = some_below l.port (missing (image_in l.image)) ≡ false
