-- `fresh::fresh_ledger`: refused, or full.
use Rattle.std.proofs.Common.{refl}
use Rattle.ledger.proofs.Laws.{loaded_as}
use Rattle.row.proofs.fresh.fresh_ledger.Goals as goal

pub fresh_row-requires : goal.fresh_row-requires
fresh_row-requires c = loaded_as _ _ c.in-Ok.ensures refl
