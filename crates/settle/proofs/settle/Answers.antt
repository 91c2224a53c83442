-- `settle::settle`: what was spent, and sent where nothing drops it.
use Rattle.settle.specs.Laws.{settles_by}
use Rattle.settle.proofs.settle.Goals as goal

pub returns : goal.returns
returns c = settles_by _ _ _ _ _ _ _ c.spend-spent.ensures c.and.ensures
