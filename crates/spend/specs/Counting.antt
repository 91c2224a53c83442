-- Counts of their four numbers.
use Rattle.std.specs.Prelude.{ℕ}
use Rattle.spend.specs.declared.Counts.{Counts}

abbrev pub counts : ℕ → ℕ → ℕ → ℕ → Counts
counts f d o x = record { frames = f; drops = d; octets = o; dropped = x }
