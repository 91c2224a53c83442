use Rattle.std.proofs.Common.{◌∙◌}
use Rattle.laws.specs.ScanLaws.{counting_end}
use Rattle.broken.proofs.MarksLaws.{flags_none, flags_more, flag_told}
use Rattle.broken.proofs.index_twice.Goals as goal

pub loop-i-init : goal.loop-i-init
loop-i-init c = flags_none _ _ _ _ c.none-seen.ensures.again c.none-seen.ensures.marks

pub loop-i-preserved : goal.loop-i-preserved
loop-i-preserved c = let s = c.loop-i.seen in
    flags_more _ 1024 c.loop-i.i c.index.result s.again _ s.marks _ c.loop-i.invariant c.index.ensures.0 c.index.ensures.1 c.mark.ensures.again c.mark.ensures.marks

pub returns : goal.returns
returns c = let l = c.loop-i in
    flag_told _ ∙ counting_end _ 1024 l.i _ c.count-i-end.result _ _ l.invariant c.loop-i-test.false l.auto.i-end c.count-i-end.ensures.0
