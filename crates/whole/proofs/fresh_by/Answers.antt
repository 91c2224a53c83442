-- `whole::fresh_by`: the cleared buffer, from a fresh state.
use Rattle.std.proofs.Common.{sym, subst}
use Rattle.whole.proofs.Laws.{started}
use Rattle.stream.specs.Machine.{Machine, fresh}
use Rattle.stream.specs.Fine.{Fine}
use Rattle.stream.specs.FineLaws.{cleared_fine}
use Rattle.whole.proofs.fresh_by.Goals as goal

pub run-requires : goal.run-requires
run-requires g c = let image = c.args.image.now in
    subst (λ (m : Machine). Fine m) (sym (started c.fresh.result _ image c.fresh.ensures c.clear.ensures)) (cleared_fine fresh image tt)
