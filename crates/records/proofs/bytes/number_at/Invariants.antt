-- `bytes::number_at`: after i bytes n is the number that they make.
use Rattle.std.proofs.Common.{◌≡◌, ◌^◌, ◌<◌}
use Rattle.records.specs.Bytes.{number_at}
use Rattle.records.proofs.bytes.number_at.Given as goal

abbrev pub invariant-loop-b : goal.invariant-loop-b
invariant-loop-b l = (l.n ≡ number_at l.list l.at l.b-index) × (l.n < 256 ^ l.b-index)
