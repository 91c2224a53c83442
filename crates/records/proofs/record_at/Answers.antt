-- `records::record_at`: the opening, the list's end, then the kind's own answer.
use Rattle.std.proofs.Common.{Option, Some, sym, ap, ◌∙◌}
use Rattle.laws.specs.Chain.{hit_le, pass_le}
use Rattle.records.specs.declared.Kind.{Kind}
use Rattle.records.specs.List.{Opens, of_kind, under, stands_at}
use Rattle.records.proofs.record_at.Goals as goal

pub returns-in-Err : goal.returns-in-Err
unfolding stands_at
returns-in-Err c = ap (λ (o : Opens). under o c.args.list.now c.args.at) c.in-Err.ensures

pub returns-then-list-at : goal.returns-then-list-at
unfolding stands_at
returns-then-list-at c = hit_le _ _ _ _ c.if-list-at.true ∙ ap (λ (o : Opens). under o c.args.list.now c.args.at) c.in-Ok.ensures

pub returns-in-Some-Frame : goal.returns-in-Some-Frame
unfolding stands_at
returns-in-Some-Frame c = pass_le _ _ _ _ _ c.if-list-at.false
    (c.frame_at.ensures
    ∙ ap (λ (k : Option Kind). of_kind k c.args.list.now c.args.at) (ap Some (sym c.in-Some-Frame.field-0-is) ∙ c.in-Some-Frame.ensures))
    ∙ ap (λ (o : Opens). under o c.args.list.now c.args.at) c.in-Ok.ensures

pub returns-in-Some-Release : goal.returns-in-Some-Release
unfolding stands_at
returns-in-Some-Release c = pass_le _ _ _ _ _ c.if-list-at.false
    (c.release_at.ensures
    ∙ ap (λ (k : Option Kind). of_kind k c.args.list.now c.args.at) (ap Some (sym c.in-Some-Release.field-0-is) ∙ c.in-Some-Release.ensures))
    ∙ ap (λ (o : Opens). under o c.args.list.now c.args.at) c.in-Ok.ensures

pub returns-in-None : goal.returns-in-None
unfolding stands_at
returns-in-None c = pass_le _ _ _ _ _ c.if-list-at.false
    (ap (λ (k : Option Kind). of_kind k c.args.list.now c.args.at) c.in-None.ensures)
    ∙ ap (λ (o : Opens). under o c.args.list.now c.args.at) c.in-Ok.ensures
