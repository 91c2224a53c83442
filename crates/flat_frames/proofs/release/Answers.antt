-- `flat_frames::release`: the answer's number, and the row.
use Rattle.std.proofs.Common.{rules}
use Rattle.flat_frames.specs.FramesLaws.{releases}
use Rattle.flat_frames.proofs.release.Goals as goal

pub returns : goal.returns
returns c = search (rules, releases)
