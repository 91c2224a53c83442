-- `one_block::data_place`: where the room is asked, each count is within its limit.
use Rattle.std.proofs.Common.{sym, ◌∙◌, mul-le-mul_right}
use Rattle.image.specs.Layout.{image_in}
use Rattle.image.specs.Rows.{size_of}
use Rattle.image.specs.SoundLaws.{within_limits}
use Rattle.one_block.proofs.data_place.Goals as goal

pub room_of-room-requires-clause-table_bound : goal.room_of-room-requires-clause-table_bound
room_of-room-requires-clause-table_bound c =
    mul-le-mul_right (size_of c.args.table) (within_limits (image_in c.args.image.now) (sym c.over_limit.ensures ∙ c.if-over_limit.false) c.args.table)
