-- `ports::egress_ports`: a bit for each port.
use Rattle.std.proofs.Common.{arith}
use Rattle.ports.specs.Laws.{same_mask}
use Rattle.ports.proofs.egress_ports.Goals as goal

pub overflow_add-result : goal.overflow_add-result
overflow_add-result c = omega (arith, c.egress.ensures.1, c.egress-2.ensures.1)

pub overflow_add-result-2 : goal.overflow_add-result-2
overflow_add-result-2 c = omega (arith, c.egress.ensures.1, c.egress-2.ensures.1, c.egress-3.ensures.1)

pub overflow_add-result-3 : goal.overflow_add-result-3
overflow_add-result-3 c = omega (arith, c.egress.ensures.1, c.egress-2.ensures.1, c.egress-3.ensures.1, c.egress-4.ensures.1)

pub overflow_add-result-4 : goal.overflow_add-result-4
overflow_add-result-4 c = omega (arith, c.egress.ensures.1, c.egress-2.ensures.1, c.egress-3.ensures.1, c.egress-4.ensures.1, c.egress-5.ensures.1)

pub returns : goal.returns
returns c = same_mask _ _ _ _ _ _ _ _ _ _ c.egress.ensures.0 c.egress-2.ensures.0 c.egress-3.ensures.0 c.egress-4.ensures.0 c.egress-5.ensures.0
