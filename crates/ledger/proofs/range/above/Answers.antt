-- `ledger::range::above`: the top bit of the difference, or of what is taken away.
use Rattle.std.proofs.Common.{rules}
use Rattle.ledger.specs.AboveLaws.{tells_above}
use Rattle.ledger.proofs.range.above.Goals as goal

pub returns : goal.returns
returns c = search (rules, tells_above)
