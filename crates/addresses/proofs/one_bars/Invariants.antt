-- `addresses::one_bars`: none of the entries that the loop has passed bars the source.
use Rattle.std.proofs.Common.{◌≡◌, false}
use Rattle.laws.specs.Scan.{some_below}
use Rattle.image.specs.Layout.{image_in}
use Rattle.lookup.specs.Groups.{from}
use Rattle.addresses.specs.Address.{bars}
use Rattle.addresses.proofs.one_bars.Given as goal

abbrev pub invariant-loop-k : goal.invariant-loop-k
invariant-loop-k l = some_below l.k (from l.i (bars (image_in l.search.image.now) l.port l.search.vlan l.search.mac)) ≡ false
