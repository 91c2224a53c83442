-- Where a table's entries go.
use Rattle.std.specs.Prelude.{◌≡◌, List, ℕ, ◌+◌, ◌*◌, ◌≤◌}
use Rattle.image.specs.Layout.{entry_words}
use Rattle.image.specs.Rows.{start_of, size_of, most_of}
use Rattle.image.specs.declared.tables.Table.{Table}
use Rattle.stream.specs.Machine.{had_in}
use Rattle.placing.specs.declared.Room.{Room}

-- where a table's next entry goes, and the words that it has left
pub record RoomOf (buffer : List ℕ) (t : Table) (r : Room) : Type 0 where
  pub place : r.place ≡ start_of t + had_in buffer t * size_of t
  pub left : had_in buffer t * size_of t + r.left ≡ most_of t * size_of t
  pub inside : r.place + r.left ≤ entry_words
