-- `judge::refusal`: what stands before every call, then the frame's own.
use Rattle.std.proofs.Common.{refl}
use Rattle.laws.specs.Chain.{at_zero}
use Rattle.ledger.proofs.Laws.{handed_first}
use Rattle.judge.specs.Refusal.{refusal_of}
use Rattle.judge.proofs.refusal.Goals as goal

pub returns-in_err-standing : goal.returns-in_err-standing
unfolding refusal_of
returns-in_err-standing c = handed_first _ _ _ _ c.from_residual.ensures.1 c.in_err-standing.ensures

pub returns : goal.returns
unfolding refusal_of
returns c = at_zero _ _ _ _ _ c.in_ok-standing.ensures refl c.unjudged.ensures
