-- `addresses::best_from`: the loop holds the match with the lowest INDEX among the entries that it has passed.
use Rattle.std.proofs.Common.{◌+◌}
use Rattle.image.specs.Layout.{image_in}
use Rattle.addresses.specs.Leading.{Kept}
use Rattle.addresses.proofs.best_from.Given as goal

abbrev pub invariant-loop-k : goal.invariant-loop-k
invariant-loop-k l = Kept (image_in l.search.image.now) l.search.vlan l.search.mac (l.i + l.k) l.best
