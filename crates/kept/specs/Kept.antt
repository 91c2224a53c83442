-- A row in range, of the right length.
use Rattle.std.specs.Prelude.{◌≡◌, List, ℕ, length}
use Rattle.ledger.specs.Row.{cell_count}
use Rattle.ledger.specs.Stands.{InRange}

-- the row has as many cells as the code's array
pub record Kept (image g : List ℕ) : Type 0 where
  pub all : length g ≡ cell_count
  pub range : InRange image g
