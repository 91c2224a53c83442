-- `image::parameters::shared_learn`: the bit, or clear where the table is absent.
use Rattle.std.proofs.Common.{rules}
use Rattle.laws.specs.Chain.{chain, carried}
use Rattle.fields.proofs.parameters.shared_learn.Goals as goal

pub returns-then-count-eq0 : goal.returns-then-count-eq0
returns-then-count-eq0 c = search (rules, chain, carried) depth 40

pub returns-else-count-eq0 : goal.returns-else-count-eq0
returns-else-count-eq0 c = search (rules, chain, carried) depth 40
