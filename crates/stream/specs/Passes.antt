-- What a block's header that is not refused has.
use Rattle.std.specs.Prelude.{◌≡◌, ℕ, ◌+◌, ◌/◌, ◌%◌, ◌≤◌, Ok}
use Rattle.image.specs.Rows.{size_of, most_of}
use Rattle.image.specs.declared.tables.Table.{Table}
use Rattle.image.specs.Blocks.{Block}

-- a block of n words for a table that had so many entries: whole entries, and the table has room for them
pub record Passes (t : Table) (n had : ℕ) : Type 0 where
  pub whole : n % size_of t ≡ 0
  pub fits : had + n / size_of t ≤ most_of t

-- a header is its table's exactly where its ID names the table and the block passes
pub record Named (b : Block) (n : ℕ) (had : Table → ℕ) (t : Table) : Type 0 where
  pub named : b ≡ Ok t
  pub passes : Passes t n (had t)
