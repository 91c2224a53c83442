-- What a search answers that scans the indices below n.
use Rattle.std.specs.Prelude.{cond, ℕ, eqb, Option, Some, None}

-- the index that the scan gives, or none where it gives n
abbrev pub found : ℕ → ℕ → Option ℕ
found n i = cond (eqb i n) None (Some i)
