use Rattle.std.proofs.Common.{sym, ◌∙◌, subst}
use Rattle.stream.specs.Machine.{Machine, at}
use Rattle.stream.specs.Fine.{Fine}
use Rattle.stream.specs.FineLaws.{step_fine, run_fine}
use Rattle.stream.proofs.StatesLaws.{leaves_at, at_leaves}
use Rattle.quick.proofs.Laws.{after_word, after_words, none_left}
use Rattle.quick.proofs.ByTablesRuns.run.Goals as goal

pub loop-first-preserved-then-state-gt0 : goal.loop-first-preserved-then-state-gt0
loop-first-preserved-then-state-gt0 g c =
    let l = c.loop-first in
    let parts = c.split_at.ensures in
    let is = leaves_at c.data_run-state.ensures in
    record {
      long = c.data_run-state.auto.image ∙ l.invariant.long;
      fine = subst (λ (m : Machine). Fine m) (sym is) (run_fine (at l.state l.image) _ l.invariant.fine);
      runs = after_words (at l.state l.image) _ _ l.rest.now _ _ parts.front parts.back is ∙ l.invariant.runs;
    }

pub loop-first-preserved : goal.loop-first-preserved
loop-first-preserved g c =
    let l = c.loop-first in
    let is = leaves_at c.step-state.ensures in
    record {
      long = c.step-state.auto.image ∙ l.invariant.long;
      fine = subst (λ (m : Machine). Fine m) (sym is) (step_fine (at l.state l.image) _ l.invariant.fine);
      runs = after_word (at l.state l.image) _ _ l.rest.now _ c.in-Some.ensures.cases.0 is ∙ l.invariant.runs;
    }

pub returns : goal.returns
returns g c = let l = c.loop-first in
    at_leaves (sym (none_left (at l.state l.image) l.rest.now c.in_default.ensures.cases) ∙ l.invariant.runs)
