-- `replica::one`: by the answer of 4, then by that of 7 and 8.
use Rattle.std.proofs.Common.{sym, subst, ◌∙◌}
use Rattle.image.specs.Layout.{image_in}
use Rattle.plan.specs.LetIn.{Inside}
use Rattle.plan.specs.EnterLaws.{inside}
use Rattle.plan.proofs.Laws.{gone_out}
use Rattle.settle.specs.Laws.{drop_carries}
use Rattle.replica.proofs.ReplicaLaws.{is_absent, is_placed}
use Rattle.replica.proofs.one.Goals as goal

pub returns-in_err-place : goal.returns-in_err-place
returns-in_err-place c = let e = c.in_err-place.ensures in rw (gone_out _ _ c.from_residual.ensures.1) (is_absent _ _ _ _ _ _ _ _ _ _ _ c.place.ensures e.ok_part e.value)

pub returns-in_err-policer : goal.returns-in_err-policer
returns-in_err-policer c = rw (gone_out _ _ c.from_residual-in_err-policer.ensures.1) (is_placed _ _ _ _ _ _ _ _ _ _ _ _ _ _ c.place.ensures c.in_ok-place.ensures.ok_part c.in_err-policer.was (drop_carries _ _ _ _))

pub carry_on-requires-clause-port_bound : goal.carry_on-requires-clause-port_bound
carry_on-requires-clause-port_bound c = (c.requires.port_bound.0, subst (Inside (image_in c.args.image.now)) (sym c.place.ensures ∙ c.in_ok-place.ensures.ok_part) (inside (image_in c.args.image.now) _), c.requires.port_bound.1)

pub returns : goal.returns
returns c = is_placed _ _ _ _ _ _ _ _ _ _ _ _ _ _ c.place.ensures c.in_ok-place.ensures.ok_part c.in_ok-policer.was c.carry_on.ensures
