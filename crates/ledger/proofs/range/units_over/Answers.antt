use Rattle.std.proofs.Common.{rules}
use Rattle.ledger.specs.AboveLaws.{tells_none, tells_of, tells_more}
use Rattle.ledger.proofs.range.units_over.Goals as goal

pub loop-j-init : goal.loop-j-init
loop-j-init c = tells_none _

pub loop-j-preserved : goal.loop-j-preserved
loop-j-preserved c = search (rules, tells_more, tells_of)
