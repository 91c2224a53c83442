-- `enter::enter`: each step by its answer.
use Rattle.std.proofs.Common.{ap, refl, arith}
use Rattle.image.specs.Layout.{image_in}
use Rattle.drops.specs.Laws.{not_none}
use Rattle.plan.specs.Enter.{by_intake, enter_of}
use Rattle.plan.specs.EnterLaws.{is_absent, is_there, kept_out_is, let_in_is}
use Rattle.plan.proofs.Laws.{gone_out}
use Rattle.plan.proofs.enter.enter.Goals as goal

pub returns-in_err-received : goal.returns-in_err-received
unfolding enter_of
returns-in_err-received c = rw (gone_out _ _ c.from_residual.ensures.1) (ap (by_intake (image_in c.args.image.now) c.args.port c.args.frame.now) c.in_err-received.ensures)

pub returns-in_err-place : goal.returns-in_err-place
returns-in_err-place c = let e = c.in_err-place.ensures in rw (gone_out _ _ c.from_residual-in_err-place.ensures.1) (is_absent _ _ _ _ _ c.in_ok-received.ensures c.place.ensures _ e.value e.ok_part)

pub mac_at-requires : goal.mac_at-requires
mac_at-requires c = let h = is_there _ _ _ _ _ c.in_ok-received.ensures c.place.ensures _ c.in_ok-place.ensures.ok_part in omega (arith, h.0)

pub kept_out-requires-clause-port_bound : goal.kept_out-requires-clause-port_bound
kept_out-requires-clause-port_bound c = (c.requires.port_bound, (is_there _ _ _ _ _ c.in_ok-received.ensures c.place.ensures _ c.in_ok-place.ensures.ok_part).1)

pub returns-in_err-kept_out : goal.returns-in_err-kept_out
returns-in_err-kept_out c = rw (gone_out _ _ c.from_residual-in_err-kept_out.ensures.1) (kept_out_is _ _ _ _ _ c.in_ok-received.ensures c.place.ensures _ _ _ c.in_ok-place.ensures.ok_part c.mac_at.ensures c.in_err-kept_out.ensures (not_none _))

pub returns : goal.returns
returns c = let_in_is _ _ _ _ _ c.in_ok-received.ensures c.place.ensures _ _ _ c.in_ok-place.ensures.ok_part c.mac_at.ensures c.in_ok-kept_out.ensures refl
