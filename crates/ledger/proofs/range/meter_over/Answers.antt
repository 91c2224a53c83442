-- `ledger::range::meter_over`: its credit or its time.
use Rattle.ledger.specs.AboveLaws.{tells_either}
use Rattle.ledger.proofs.range.meter_over.Goals as goal

pub returns : goal.returns
returns c = search tells_either
