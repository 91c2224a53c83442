-- Numbers whose top bit tells that a value is above its most.
use Rattle.std.specs.Prelude.{◌≡◌, ℕ, ◌/◌, ◌^◌, Bool, ◌||◌, List, nat_lt}
use Rattle.laws.specs.Scan.{flag}
use Rattle.ledger.specs.Row.{credit, since, last, cell}
use Rattle.ledger.specs.Range.{full_of}

-- a number's top bit of 64 is set exactly where b holds
pub record Tells (b : Bool) (x : ℕ) : Type 0 where
  pub top : x / 2 ^ 63 ≡ flag b

-- meter k holds more than `most`, or was set after the last time
abbrev pub meter_over : List ℕ → ℕ → ℕ → Bool
meter_over g k most = nat_lt most (cell g credit k) || nat_lt (cell g last 0) (cell g since k)

-- held to what it holds when it is full
unfoldable pub meter_off : List ℕ → List ℕ → ℕ → Bool
meter_off image g k = meter_over g k (full_of image k)
