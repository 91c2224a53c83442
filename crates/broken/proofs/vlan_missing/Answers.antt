use Rattle.std.proofs.Common.{◌≡◌, sym, ◌∙◌, ap, Bool, true, false, not, List, map, ℕ, ◌+◌, ◌<◌, length, get_or, rules}
use Rattle.laws.specs.Scan.{some_below, flag, Marks}
use Rattle.laws.specs.ScanLaws.{some_none, some_not, some_found}
use Rattle.image.specs.Layout.{count_of}
use Rattle.image.specs.declared.tables.Table.TheVariants.{VlanLookup}
use Rattle.fields.specs.Fields.{vlanid, port_vlanid}
use Rattle.broken.specs.Broken.{no_vlan, vlan_missing}
use Rattle.broken.proofs.MarksLaws.{unmarked_tells}
use Rattle.broken.proofs.vlan_missing.Invariants.{missing}
use Rattle.broken.proofs.vlan_missing.Goals as goal

-- the mark of a port's VLANID v tells
module _ (image : List ℕ) (marks : List Bool) (port v : ℕ) (e : v ≡ port_vlanid image port) (l : v < 4096) (long : length marks ≡ 4096) (marked : Marks (count_of image VlanLookup) (vlanid image) (map flag marks)) where
  told : missing image port ≡ not (get_or marks v false)
  told = sym (unmarked_tells image marks v l long marked ∙ ap (no_vlan image) e)

  unmarked : port < 5 → get_or marks v false ≡ false → true ≡ vlan_missing image
  unmarked h z = sym (some_found 5 port (missing image) h (told ∙ ap not z))

  one_more : get_or marks v false ≡ true → some_below port (missing image) ≡ false → some_below (port + 1) (missing image) ≡ false
  one_more z none = some_not port (missing image) none (told ∙ ap not z)

pub loop-port-init : goal.loop-port-init
loop-port-init c = some_none _

pub returns-then-not-marks-vlanid : goal.returns-then-not-marks-vlanid
returns-then-not-marks-vlanid c = search (rules, unmarked)

pub loop-port-preserved : goal.loop-port-preserved
loop-port-preserved c = search (rules, one_more)
