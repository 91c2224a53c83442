-- `ledger::range::meters_over`: the meters with an entry, then the others.
use Rattle.laws.specs.Scan.{some_below}
use Rattle.image.specs.Layout.{image_in}
use Rattle.ledger.specs.Above.{Tells, meter_off}
use Rattle.ledger.proofs.range.meters_over.Given as goal

abbrev pub invariant-loop-k : goal.invariant-loop-k
invariant-loop-k l = Tells (some_below l.k (meter_off (image_in l.image) l.row)) l.all

abbrev pub invariant-loop-k-2 : goal.invariant-loop-k-2
invariant-loop-k-2 l = Tells (some_below l.k (meter_off (image_in l.image) l.row)) l.all
