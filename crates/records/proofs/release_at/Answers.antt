-- `records::release_at`: both bytes are there, or the record is cut.
use Rattle.std.proofs.Common.{ap, ℕ, ◌+◌}
use Rattle.laws.specs.Chain.{hit_lt, pass_lt}
use Rattle.records.specs.List.{release, release_at}
use Rattle.records.proofs.release_at.Goals as goal

pub returns-then-list-at-lt-RELEASE_BYTES : goal.returns-then-list-at-lt-RELEASE_BYTES
unfolding release_at
returns-then-list-at-lt-RELEASE_BYTES c = hit_lt _ _ _ _ c.if-list-at-lt-RELEASE_BYTES.true

pub returns : goal.returns
unfolding release_at
returns c = pass_lt _ _ _ _ _ c.if-list-at-lt-RELEASE_BYTES.false (ap (λ (x : ℕ). release x (c.args.at + 2)) c.number_at.ensures.0)
