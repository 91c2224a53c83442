use Rattle.std.proofs.Common.{ℕ, ◌≤◌, sym, subst, arith}
use Rattle.image.specs.Layout.{image_in}
use Rattle.image.specs.declared.tables.Table.TheVariants.{Policing}
use Rattle.row.specs.Fresh.{fresh_of}
use Rattle.row.specs.FreshLaws.{filling_none, partition_more, meter_more, fresh_end}
use Rattle.row.proofs.fresh.fresh_row.Goals as goal

pub loop-j-init : goal.loop-j-init
loop-j-init c = filling_none _

pub loop-j-preserved : goal.loop-j-preserved
loop-j-preserved c = let l = c.loop-j in
    partition_more (image_in c.args.image.now) l.row l.j _ l.invariant c.loop-j-test.true c.part_spc.ensures.0

pub loop-k-preserved : goal.loop-k-preserved
loop-k-preserved c = let l = c.loop-k in
    let w : c.count-k-end.result ≤ 45 = subst (λ (m : ℕ). m ≤ 45) (sym c.count-k-end.ensures.0) (c.requires.within.within Policing) in
    meter_more (image_in c.args.image.now) l.row l.k _ l.invariant (omega arith) c.full.ensures.0

pub returns : goal.returns
unfolding fresh_of
returns c = let l = c.loop-k in
    fresh_end (image_in c.args.image.now) l.row l.k _ l.invariant c.count-k-end.ensures.0 c.loop-k-test.false
