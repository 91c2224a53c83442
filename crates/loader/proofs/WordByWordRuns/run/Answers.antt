use Rattle.std.proofs.Common.{sym, ◌∙◌, subst}
use Rattle.stream.specs.Machine.{Machine, at}
use Rattle.stream.specs.Fine.{Fine}
use Rattle.stream.specs.FineLaws.{step_fine}
use Rattle.stream.proofs.StatesLaws.{leaves_at, at_leaves}
use Rattle.loader.proofs.Laws.{one_more, run_end}
use Rattle.loader.proofs.WordByWordRuns.run.Goals as goal

pub loop-w-preserved : goal.loop-w-preserved
loop-w-preserved c = let l = c.loop-w in
    let is = leaves_at c.step-state.ensures in
    record {
      long = c.step-state.auto.image ∙ l.invariant.long;
      fine = subst (λ (m : Machine). Fine m) (sym is) (step_fine (at l.state l.image) _ l.invariant.fine);
      runs = one_more (at l.state l.image) _ c.args.words.now l.w-index c.loop-w-test.true is ∙ l.invariant.runs;
    }

pub returns : goal.returns
returns c = let l = c.loop-w in
    at_leaves (sym (run_end (at l.state l.image) c.args.words.now l.w-index c.loop-w-test.false l.auto.w-index-end) ∙ l.invariant.runs)
