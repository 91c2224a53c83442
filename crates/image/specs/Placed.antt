-- A table and its row, by its place in the rows.
use Rattle.std.specs.Prelude.{◌≡◌, ◌+◌, ◌*◌, ◌<◌, ◌≤◌}
use Rattle.image.specs.Rows.{index_of, table_count, row_of, size_of, most_of, start_of}
use Rattle.image.specs.Layout.{entry_words}
use Rattle.image.specs.declared.tables.Row.{Row as CodeRow}
use Rattle.image.specs.declared.tables.Table.{Table}

-- a table's place is a row's, and that row is its own
pub record Placed (t : Table) : Type 0 where
  pub inside : index_of t < table_count
  pub back : (row_of t).table ≡ t

-- the code's row of a table: what the rows say of it, and that it lies in the image
pub record RowOf (t : Table) (r : CodeRow) : Type 0 where
  pub place : r.place ≡ index_of t
  pub start : r.start ≡ start_of t
  pub size : r.size ≡ size_of t
  pub most : r.most ≡ most_of t
  pub inside : r.place < table_count
  pub some : 0 < r.size
  pub short : r.size ≤ entry_words
  pub few : r.most ≤ entry_words
  pub ends : r.start + r.size * r.most ≤ entry_words
