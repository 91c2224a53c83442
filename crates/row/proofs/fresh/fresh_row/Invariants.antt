-- `fresh::fresh_row`: the partitions and then the meters that a loop has passed are filled; every other cell is 0.
use Rattle.std.proofs.Common.{◌+◌}
use Rattle.image.specs.Layout.{image_in}
use Rattle.ledger.specs.Row.{units, credit, start}
use Rattle.row.specs.Fresh.{fresh_cell, Filling}
use Rattle.row.proofs.fresh.fresh_row.Given as goal

abbrev pub invariant-loop-j : goal.invariant-loop-j
invariant-loop-j l = Filling (fresh_cell (image_in l.image)) l.row (start units + l.j)

abbrev pub invariant-loop-k : goal.invariant-loop-k
invariant-loop-k l = Filling (fresh_cell (image_in l.image)) l.row (start credit + l.k)
