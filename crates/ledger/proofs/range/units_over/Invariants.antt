-- `ledger::range::units_over`: the top bit is set as soon as a partition has more units than its space.
use Rattle.std.proofs.Common.{ltb}
use Rattle.laws.specs.Scan.{some_below}
use Rattle.image.specs.Layout.{image_in}
use Rattle.fields.specs.Fields.{part_spc}
use Rattle.ledger.specs.Row.{units, cell}
use Rattle.ledger.specs.Above.{Tells}
use Rattle.ledger.proofs.range.units_over.Given as goal

abbrev pub invariant-loop-j : goal.invariant-loop-j
invariant-loop-j l = Tells (some_below l.j (λ i. ltb (part_spc (image_in l.image) i) (cell l.row units i))) l.all
