-- How a loop over bytes finds a difference.
use Rattle.std.specs.Prelude.{Bool, List, ℕ, ◌+◌, drop}
use Rattle.records.specs.Bytes.{differ}

-- ---- does a byte differ: what is left of the question after i of them, and each way that a loop over i goes on or ends

abbrev pub differ_from : List ℕ → ℕ → List ℕ → ℕ → Bool
differ_from list at wanted i = differ (drop (at + i) list) (drop i wanted)
