-- The rows in ascending block ID, for whoever wants that order: rows themselves stand in the order in which they landed.
use Rattle.std.specs.Prelude.{◌≡◌, cond, List, [], ◌∷◌, ℕ, ◌+◌, ◌<◌, ltb, length, get_or}
use Rattle.image.specs.Rows.{Row, rows, blank, table_count}
use Rattle.image.specs.declared.tables.Table.{Table}

-- a row among others that ascend: before the first with a higher ID
abbrev among : Row → List Row → List Row
among r [] = r ∷ []
among r (s ∷ ss) = cond (ltb r.id s.id) (r ∷ s ∷ ss) (s ∷ among r ss)

abbrev sorted : List Row → List Row
sorted [] = []
sorted (r ∷ rs) = among r (sorted rs)

abbrev pub ascending : List Row
ascending = sorted rows

-- these rows ascend, there are as many as tables, and each table is one of theirs
pub record Ascends (rs : List Row) : Type 0 where
  pub ids : (k : ℕ) → k + 1 < table_count → (get_or rs k blank).id < (get_or rs (k + 1) blank).id
  pub many : length rs ≡ table_count
  pub all : (t : Table) → (k : ℕ) × (k < length rs) × ((get_or rs k blank).table ≡ t)
