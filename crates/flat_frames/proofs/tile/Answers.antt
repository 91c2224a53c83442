-- `flat_frames::tile`: the tile's numbers.
use Rattle.std.proofs.Common.{rules}
use Rattle.flat_frames.specs.FramesLaws.{tiles}
use Rattle.flat_frames.proofs.tile.Goals as goal

pub returns : goal.returns
returns c = search (rules, tiles)
