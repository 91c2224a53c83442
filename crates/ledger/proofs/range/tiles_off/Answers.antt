use Rattle.std.proofs.Common.{sym, ◌∙◌}
use Rattle.laws.specs.ScanLaws.{some_none, some_not, some_found}
use Rattle.ledger.proofs.range.tiles_off.Goals as goal

pub returns-then-counts_off : goal.returns-then-counts_off
returns-then-counts_off c = sym (some_found 5 c.loop-p.p _ c.loop-p-test.true (sym c.counts_off.ensures ∙ c.if-counts_off.true))

pub loop-p-preserved : goal.loop-p-preserved
loop-p-preserved c = some_not c.loop-p.p _ c.loop-p.invariant (sym c.counts_off.ensures ∙ c.if-counts_off.false)

pub loop-p-init : goal.loop-p-init
loop-p-init c = some_none _
