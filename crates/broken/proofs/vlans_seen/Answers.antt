use Rattle.broken.specs.PassesLaws.{counting_whole}
use Rattle.broken.proofs.MarksLaws.{flags_none, flags_more}
use Rattle.broken.proofs.vlans_seen.Goals as goal

pub loop-i-init : goal.loop-i-init
loop-i-init c = flags_none _ _ _ _ c.none-seen.ensures.again c.none-seen.ensures.marks

pub loop-i-preserved : goal.loop-i-preserved
loop-i-preserved c = let s = c.loop-i.seen in
    flags_more _ 4096 c.loop-i.i c.vlanid.result s.again _ s.marks _ c.loop-i.invariant c.vlanid.ensures.0 c.vlanid.ensures.1 c.mark.ensures.again c.mark.ensures.marks

pub returns : goal.returns
returns c = let l = c.loop-i in counting_whole _ 4096 l.i _ c.count-i-end.result _ _ l.invariant c.loop-i-test.false l.auto.i-end c.count-i-end.ensures.0
