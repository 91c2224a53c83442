-- `judge::judge`: refused with the row and the places as they were; or the plan carried out, and noted, and then the replicas.
use Rattle.std.proofs.Common.{refl, sym, subst, ◌∙◌, arith, rules}
use Rattle.image.specs.Layout.{image_in}
use Rattle.ledger.specs.RefusalsLaws.{refused}
use Rattle.plan.specs.Answered.{entered_in}
use Rattle.plan.specs.LetIn.{Through}
use Rattle.plan.specs.EnterLaws.{through}
use Rattle.settle.specs.CountableLaws.{still_countable}
use Rattle.judge.specs.Laws.{admitted_as, entry_runs, some_let_in, is_refused, is_judged_as}
use Rattle.judge.proofs.judge.Goals as goal

pub returns-in-Err : goal.returns-in-Err
returns-in-Err c = is_refused _ _ _ _ _ _ _ (c.from.ensures ∙ c.in-Err.ensures) (λ z. refused c.in-Err.refusal (sym c.from.ensures ∙ z))

pub enter-entered-requires : goal.enter-entered-requires
enter-entered-requires c = let a = admitted_as _ _ _ _ _ _ c.in_default.ensures refl in record { sound = a.image; port_bound = a.inside }

pub own-requires : goal.own-requires
own-requires c = let a = admitted_as _ _ _ _ _ _ c.in_default.ensures refl in record { sound = a.image; port_bound = (a.inside, a.short); through = subst (Through (image_in c.args.image.now) c.args.frame.now) (sym c.enter-entered.ensures) (through _ _ _) }

pub note-requires : goal.note-requires
note-requires c = let a = admitted_as _ _ _ _ _ _ c.in_default.ensures refl in record { countable = still_countable _ _ _ _ _ _ _ c.own.ensures (entry_runs _ c.args.port c.args.frame.now (entered_in c.enter-entered.result) a.image) a.inside a.countable; port_bound = (a.inside, omega (arith, a.short)) }

pub replicate-told-requires : goal.replicate-told-requires
replicate-told-requires c = let a = admitted_as _ _ _ _ _ _ c.in_default.ensures refl in record { sound = a.image; port_bound = (a.inside, a.short); through = some_let_in _ _ _ _ c.ok.ensures.value (subst (Through (image_in c.args.image.now) c.args.frame.now) (sym c.enter-entered.ensures) (through _ _ _)); in_bounds = search rules }

pub returns : goal.returns
returns c = is_judged_as _ _ _ _ _ _ _ _ _ _ _ _ _ _ _ _ _ c.in_default.ensures refl c.enter-entered.ensures c.from-verdict.ensures c.own.ensures c.is_drop.ensures c.note.ensures c.ok.ensures.value c.replicate-told.ensures
