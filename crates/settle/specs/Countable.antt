-- One more frame can be counted.
use Rattle.std.specs.Prelude.{List, ℕ, ◌<◌}
use Rattle.ledger.specs.Row.{frames, drops, octets, dropped, cell}
use Rattle.ledger.specs.Stands.{Counted}

-- one more frame can be counted at the port
pub record Countable (g : List ℕ) (port : ℕ) : Type 0 where
  pub tile : Counted (cell g frames port) (cell g drops port) (cell g octets port) (cell g dropped port)
  pub room : cell g frames port < 4294967295
