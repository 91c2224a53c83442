-- `judge::own`: by what steps 1 to 6 answered, then by what 7 and 8 did.
use Rattle.std.proofs.Common.{ap, subst, sym, ◌∙◌}
use Rattle.image.specs.Layout.{image_in}
use Rattle.plan.specs.Sane.{Loaded}
use Rattle.plan.proofs.Laws.{gone_out, policed}
use Rattle.plan.specs.Answered.{entered_in}
use Rattle.settle.specs.Laws.{drop_carries}
use Rattle.judge.specs.Laws.{is_dropped, is_let_in, policed_is}
use Rattle.judge.proofs.own.Goals as goal

pub returns-in_err-entrant : goal.returns-in_err-entrant
returns-in_err-entrant c = rw (gone_out _ _ c.from_residual.ensures.1) (is_dropped _ _ _ _ _ _ _ _ (ap entered_in c.in_err-entrant.was))

pub returns-in_err-policer : goal.returns-in_err-policer
returns-in_err-policer c = rw (gone_out _ _ c.from_residual-in_err-policer.ensures.1) (is_let_in _ _ _ _ _ _ _ _ _ _ _ _ (ap entered_in c.in_ok-entrant.was) (policed_is _ _ _ _ _ _ _ _ _ _ _ _ _ c.of-arrival.ensures c.police.ensures c.in_err-policer.was (drop_carries _ _ _ _)))

pub carry_on-requires-clause-policer_bound : goal.carry_on-requires-clause-policer_bound
carry_on-requires-clause-policer_bound c = subst (Loaded (image_in c.args.image.now)) (sym c.police.ensures ∙ c.in_ok-policer.was) (policed _ _ _ _ _)

pub returns : goal.returns
returns c = is_let_in _ _ _ _ _ _ _ _ _ _ _ _ (ap entered_in c.in_ok-entrant.was) (policed_is _ _ _ _ _ _ _ _ _ _ _ _ _ c.of-arrival.ensures c.police.ensures c.in_ok-policer.was c.carry_on.ensures)
