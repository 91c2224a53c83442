-- `flat_frames::fresh_ledger`: the answer's number, and the row.
use Rattle.std.proofs.Common.{rules}
use Rattle.flat_frames.specs.FramesLaws.{freshens}
use Rattle.flat_frames.proofs.fresh_ledger.Goals as goal

pub returns : goal.returns
returns c = search (rules, freshens)
