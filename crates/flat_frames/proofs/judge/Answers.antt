-- `flat_frames::judge`: the verdict's numbers, how many replicas, the row and the places.
use Rattle.std.proofs.Common.{rules}
use Rattle.flat_frames.specs.FramesLaws.{judges}
use Rattle.flat_frames.proofs.judge.Goals as goal

pub returns : goal.returns
returns c = search (rules, judges)
