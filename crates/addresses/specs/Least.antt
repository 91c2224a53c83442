-- How a loop that scans for the least key stands, and what the scan gives.
use Rattle.std.specs.Prelude.{◌≡◌, Bool, true, false, ℕ, ◌<◌, ◌≤◌}
use Rattle.laws.specs.Scan.{least}

-- ---- a search that keeps the best so far in two numbers; Leading is of one that keeps an Option
-- after i indices: none has passed, and the loop holds n and a key above every key; or b is the least, and the loop holds its key
pub data Leads (n top : ℕ) (p : ℕ → Bool) (key : ℕ → ℕ) (i b low : ℕ) : Type 0 where
  none_yet : least i p key ≡ i → b ≡ n → low ≡ top → Leads n top p key i b low
  best_yet : least i p key ≡ b → b < i → low ≡ key b → Leads n top p key i b low

-- ---- what the scan gives, in the paper's words
-- b passes, none that passes has a lower key, and none before it has its key
pub record Lowest (n : ℕ) (p : ℕ → Bool) (key : ℕ → ℕ) (b : ℕ) : Type 0 where
  pub inside : b < n
  pub passes : p b ≡ true
  pub lowest : (j : ℕ) → j < n → p j ≡ true → key b ≤ key j
  pub foremost : (j : ℕ) → j < b → p j ≡ true → key b < key j

-- none passes and the scan gives n, or it gives the lowest
pub data Scanned (n : ℕ) (p : ℕ → Bool) (key : ℕ → ℕ) : Type 0 where
  nothing : least n p key ≡ n → ((j : ℕ) → j < n → p j ≡ false) → Scanned n p key
  found : Lowest n p key (least n p key) → Scanned n p key
