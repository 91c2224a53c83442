-- `release::release`: refused with the row as it was, or one unit more.
use Rattle.std.proofs.Common.{refl, sym, subst}
use Rattle.ledger.specs.Answers.{Answer}
use Rattle.ledger.specs.Refusals.{number_of}
use Rattle.ledger.specs.RefusalsLaws.{refused, handed_as}
use Rattle.row.specs.Release.{Released}
use Rattle.row.specs.ReleaseLaws.{has_room, not_released, is_released}
use Rattle.row.proofs.release.release.Goals as goal

pub returns-in_err-refusal : goal.returns-in_err-refusal
returns-in_err-refusal c = let a = c.args in
    let e = c.in_err-refusal.field-0.0 in
    subst (λ (r : Answer). Released a.image.now a.row.now a.partition r a.row.now) (sym (handed_as c.from_residual.result (number_of e) c.from_residual.ensures.1))
    (not_released a.image.now a.row.now a.partition (number_of e) c.in_err-refusal.ensures (refused e))

pub give_back-requires : goal.give_back-requires
give_back-requires c = has_room _ _ _ _ c.in_ok-refusal.ensures refl

pub returns : goal.returns
returns c = is_released _ _ _ _ _ c.in_ok-refusal.ensures refl c.give_back.ensures
