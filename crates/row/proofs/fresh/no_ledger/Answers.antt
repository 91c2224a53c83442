-- `fresh::no_ledger`: its cells as the definition has them.
use Rattle.std.proofs.Common.{refl}
use Rattle.row.specs.Fresh.{no_ledger}
use Rattle.row.proofs.fresh.no_ledger.Goals as goal

pub returns : goal.returns
unfolding no_ledger
returns c = refl
