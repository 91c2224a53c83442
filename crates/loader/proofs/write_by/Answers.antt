-- `loader::write_by`: refused by its tests, or let by and run.
use Rattle.std.proofs.Common.{refl, sym, ap, subst}
use Rattle.stream.specs.Machine.{Machine, run}
use Rattle.stream.specs.Fine.{Fine}
use Rattle.stream.proofs.StatesLaws.{so}
use Rattle.placing.proofs.RefusalWrites.{writes_refused, let_by, opened_fine, writes_run}
use Rattle.loader.proofs.write_by.Goals as goal

pub returns-in-Err : goal.returns-in-Err
returns-in-Err g c = writes_refused _ _ _ _ _ _ c.in-Err.ensures c.from.ensures refl refl

pub open-requires : goal.open-requires
open-requires g c = (let_by c.args.load c.args.image.now c.args.words.now c.in_default.ensures).whole

pub run-next-requires : goal.run-next-requires
run-next-requires g c =
    subst (λ (m : Machine). Fine m) (sym c.«open».ensures) (opened_fine _ _ _ (let_by c.args.load c.args.image.now c.args.words.now c.in_default.ensures))

pub returns : goal.returns
returns g c =
    writes_run _ _ _ _ _ (let_by _ _ _ c.in_default.ensures) c.answer_of.ensures (so (ap (λ (m : Machine). run m c.args.words.now) c.«open».ensures) c.run-next.ensures)
