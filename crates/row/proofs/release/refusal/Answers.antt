-- `release::refusal`: what stands before every call, then 36 and 37.
use Rattle.std.proofs.Common.{refl}
use Rattle.laws.specs.Chain.{at_zero}
use Rattle.ledger.proofs.Laws.{handed_first, sound_as}
use Rattle.row.specs.Release.{release_refusal}
use Rattle.row.proofs.release.refusal.Goals as goal

pub returns-in_err-standing : goal.returns-in_err-standing
unfolding release_refusal
returns-in_err-standing c = handed_first _ _ _ _ c.from_residual.ensures.1 c.in_err-standing.ensures

pub unreleased-requires : goal.unreleased-requires
unreleased-requires c = sound_as _ _ _ c.in_ok-standing.ensures refl

pub returns : goal.returns
unfolding release_refusal
returns c = at_zero _ _ _ _ _ c.in_ok-standing.ensures refl c.unreleased.ensures
