-- `flat_loads::load_words`: the whole load's answer by its number, and its buffer.
use Rattle.std.proofs.Common.{rules}
use Rattle.flat_loads.proofs.Laws.{ends_flat}
use Rattle.flat_loads.proofs.load_words.Goals as goal

pub returns : goal.returns
returns c = search (rules, ends_flat)
