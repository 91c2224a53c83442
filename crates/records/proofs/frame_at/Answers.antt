-- `records::frame_at`: the head, then the bytes.
use Rattle.laws.specs.Chain.{hit_lt, pass_lt, lt_of, of_le}
use Rattle.records.specs.List.{frame_at}
use Rattle.records.specs.Laws.{frame_of}
use Rattle.records.proofs.frame_at.Goals as goal

pub returns-then-left-lt-FRAME_HEAD : goal.returns-then-left-lt-FRAME_HEAD
unfolding frame_at
returns-then-left-lt-FRAME_HEAD c = hit_lt _ _ _ _ c.if-left-lt-FRAME_HEAD.true

pub returns-then-left-count : goal.returns-then-left-count
unfolding frame_at
returns-then-left-count c = pass_lt _ _ _ _ _ c.if-left-lt-FRAME_HEAD.false (hit_lt _ _ _ _ (lt_of _ _ _ c.number_at-count.ensures.0 c.if-left-count.true))

pub returns : goal.returns
unfolding frame_at
returns c = pass_lt _ _ _ _ _ c.if-left-lt-FRAME_HEAD.false
    (pass_lt _ _ _ _ _ (of_le _ _ _ c.number_at-count.ensures.0 c.if-left-count.false)
    (frame_of _ _ _ _ _ _ _ c.number_at.ensures.0 c.number_at-2.ensures.0 c.number_at-count.ensures.0))
