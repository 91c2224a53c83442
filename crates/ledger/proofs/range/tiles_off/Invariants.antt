-- `ledger::range::tiles_off`: no tile that the loop has passed has counts that no frames give.
use Rattle.std.proofs.Common.{◌≡◌, false}
use Rattle.laws.specs.Scan.{some_below}
use Rattle.ledger.specs.Row.{frames, drops, octets, dropped, cell}
use Rattle.ledger.specs.Range.{counts_off}
use Rattle.ledger.proofs.range.tiles_off.Given as goal

abbrev pub invariant-loop-p : goal.invariant-loop-p
invariant-loop-p l = some_below l.p (λ i. counts_off (cell l.row frames i) (cell l.row drops i) (cell l.row octets i) (cell l.row dropped i)) ≡ false
