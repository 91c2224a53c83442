-- `ports::ports`: every cut.
use Rattle.ports.specs.Ports.{ports_of}
use Rattle.ports.specs.Laws.{same_cut}
use Rattle.ports.proofs.ports.Goals as goal

pub returns : goal.returns
unfolding ports_of
returns c = same_cut _ _ _ _ _ _ _ _ _ _ c.wanted.ensures c.reach_port.ensures.0 c.vmemb_port.ensures.0
    c.egress_ports.ensures
    c.others.ensures
