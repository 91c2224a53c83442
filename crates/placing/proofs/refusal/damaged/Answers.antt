-- `refusal::damaged`: where the room is asked, each count is within its limit.
use Rattle.std.proofs.Common.{sym, ◌∙◌}
use Rattle.image.specs.SoundLaws.{within_limits}
use Rattle.placing.proofs.refusal.damaged.Goals as goal

pub overdue-requires : goal.overdue-requires
overdue-requires c = (c.requires, within_limits _ (sym c.over_limit.ensures ∙ c.if-over_limit.false))
