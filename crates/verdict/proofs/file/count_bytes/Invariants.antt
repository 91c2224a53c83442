-- `verdict::file::count_bytes`: each turn counts more.
use Rattle.std.proofs.Common.{◌+◌, ◌-◌}
use Rattle.verdict.proofs.file.count_bytes.Given as goal

abbrev pub decreases-loop-bytes : goal.decreases-loop-bytes
decreases-loop-bytes g l = 4294967296 + 1 - l.bytes
