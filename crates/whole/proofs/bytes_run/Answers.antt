use Rattle.std.proofs.Common.{refl, sym, ◌∙◌, subst}
use Rattle.stream.specs.Machine.{Machine, at, fresh}
use Rattle.stream.specs.Fine.{Fine}
use Rattle.stream.specs.FineLaws.{cleared_fine, run_fine}
use Rattle.stream.proofs.StatesLaws.{leaves_at}
use Rattle.whole.proofs.Laws.{started, bytes_on}
use Rattle.whole.proofs.bytes_run.Goals as goal

pub loop-chunk-init : goal.loop-chunk-init
loop-chunk-init c = let image = c.args.image.now in
    record {
      long = refl;
      fine = subst (λ (m : Machine). Fine m) (sym (started c.fresh-state.result _ image c.fresh-state.ensures c.clear.ensures)) (cleared_fine fresh image tt);
      runs = refl;
    }

pub loop-chunk-preserved : goal.loop-chunk-preserved
loop-chunk-preserved c = let l = c.loop-chunk in
    let chunks = c.as_chunks.ensures in
    let is = leaves_at c.chunk_run-state.ensures in
    record {
      long = c.chunk_run-state.auto.image ∙ l.invariant.long;
      fine = subst (λ (m : Machine). Fine m) (sym is) (run_fine (at l.state l.image) _ l.invariant.fine);
      runs = bytes_on (at l.state l.image) _ c.args.bytes.now _ _ l.chunk-index chunks.front chunks.front_len refl c.loop-chunk-test.true is ∙ l.invariant.runs;
    }
