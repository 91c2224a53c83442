use Rattle.std.proofs.Common.{refl, sym, ◌∙◌}
use Rattle.laws.specs.ScanLaws.{some_none, some_not, some_found, some_end}
use Rattle.addresses.proofs.one_bars.Goals as goal

pub loop-k-init : goal.loop-k-init
loop-k-init c = some_none _

pub returns-then-bars : goal.returns-then-bars
returns-then-bars c = sym (some_found _ c.loop-k.k _ c.loop-k-test.true (sym c.bars.ensures ∙ c.if-bars.true))

pub loop-k-preserved : goal.loop-k-preserved
loop-k-preserved c = some_not c.loop-k.k _ c.loop-k.invariant (sym c.bars.ensures ∙ c.if-bars.false)

pub returns : goal.returns
returns c = some_end _ _ c.loop-k.k _ refl c.loop-k-test.false c.loop-k.auto.k-end c.loop-k.invariant
