-- `ledger::range::standing`: 31 and 30, then 39.
use Rattle.std.proofs.Common.{refl}
use Rattle.laws.specs.Chain.{hit, pass, at_zero}
use Rattle.ledger.proofs.Laws.{handed_first, loaded_as}
use Rattle.ledger.specs.Range.{standing}
use Rattle.ledger.proofs.range.standing.Goals as goal

pub returns-in_err-unloaded : goal.returns-in_err-unloaded
unfolding standing
returns-in_err-unloaded c = handed_first _ _ _ _ c.from_residual.ensures.1 c.in_err-unloaded.ensures

pub out_of_range-requires : goal.out_of_range-requires
out_of_range-requires c = loaded_as _ _ c.in_ok-unloaded.ensures refl

pub returns-then-out_of_range : goal.returns-then-out_of_range
unfolding standing
returns-then-out_of_range c = at_zero _ _ _ _ _ c.in_ok-unloaded.ensures refl (hit _ _ _ _ c.out_of_range.ensures c.if-out_of_range.true)

pub returns : goal.returns
unfolding standing
returns c = at_zero _ _ _ _ _ c.in_ok-unloaded.ensures refl (pass _ _ _ _ _ c.out_of_range.ensures c.if-out_of_range.false refl)
