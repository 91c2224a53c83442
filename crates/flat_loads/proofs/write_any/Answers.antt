-- `flat_loads::write_any`: 31, 30 for numbers that no load state has, then the write to the state, which is stored in its numbers.
use Rattle.flat_loads.proofs.Laws.{writes_31, writes_30, writes_on}
use Rattle.flat_loads.proofs.write_any.Goals as goal

pub returns-then-too_short : goal.returns-then-too_short
returns-then-too_short c = search writes_31

pub returns-then-not-is_load : goal.returns-then-not-is_load
returns-then-not-is_load c = search writes_30

pub returns : goal.returns
returns c = search writes_on
