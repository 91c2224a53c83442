-- `records::opening_of`: 54, 50, 51 and 52, in the paper's order.
use Rattle.std.proofs.Common.{ap}
use Rattle.laws.specs.Chain.{hit, pass, hit_lt, pass_lt}
use Rattle.records.specs.List.{version, opening_of}
use Rattle.records.proofs.opening_of.Goals as goal

pub returns-then-list-gt-MOST_BYTES : goal.returns-then-list-gt-MOST_BYTES
unfolding opening_of
returns-then-list-gt-MOST_BYTES c = hit_lt _ _ _ _ c.if-list-gt-MOST_BYTES.true

pub returns-then-differs : goal.returns-then-differs
unfolding opening_of
returns-then-differs c = pass_lt _ _ _ _ _ c.if-list-gt-MOST_BYTES.false (hit _ _ _ _ c.differs.ensures c.if-differs.true)

pub returns-then-differs-2 : goal.returns-then-differs-2
unfolding opening_of
returns-then-differs-2 c = pass_lt _ _ _ _ _ c.if-list-gt-MOST_BYTES.false
    (pass _ _ _ _ _ c.differs.ensures c.if-differs.false (hit _ _ _ _ c.differs-2.ensures c.if-differs-2.true))

pub returns-then-list-lt-FIRST : goal.returns-then-list-lt-FIRST
unfolding opening_of
returns-then-list-lt-FIRST c = pass_lt _ _ _ _ _ c.if-list-gt-MOST_BYTES.false
    (pass _ _ _ _ _ c.differs.ensures c.if-differs.false
    (pass _ _ _ _ _ c.differs-2.ensures c.if-differs-2.false (hit_lt _ _ _ _ c.if-list-lt-FIRST.true)))

pub returns : goal.returns
unfolding opening_of
returns c = pass_lt _ _ _ _ _ c.if-list-gt-MOST_BYTES.false
    (pass _ _ _ _ _ c.differs.ensures c.if-differs.false
    (pass _ _ _ _ _ c.differs-2.ensures c.if-differs-2.false
    (pass_lt _ _ _ _ _ c.if-list-lt-FIRST.false (ap version c.number_at.ensures.0))))
