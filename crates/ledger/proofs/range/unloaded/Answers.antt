-- `ledger::range::unloaded`: 31, then 30.
use Rattle.laws.specs.Chain.{flags}
use Rattle.ledger.specs.Range.{unloaded}
use Rattle.ledger.proofs.range.unloaded.Goals as goal

pub returns-then-too_short : goal.returns-then-too_short
unfolding unloaded
returns-then-too_short c = search flags depth 40

pub returns-then-not_loaded : goal.returns-then-not_loaded
unfolding unloaded
returns-then-not_loaded c = search flags depth 40

pub returns : goal.returns
unfolding unloaded
returns c = search flags depth 40
