-- What an answer says in document 01's terms. Each enum that an entry answers with has one definition from its cases to this, and its promise goes by it.
use Rattle.std.specs.Prelude.{List, ℕ}

-- which of its cases an answer is, 0 for a refusal; the number of a refusal or a drop; and the values that come with it
pub record Says : Type 0 where
  pub kind : ℕ
  pub number : ℕ
  pub values : List ℕ

abbrev pub says : ℕ → ℕ → List ℕ → Says
says kind number values = record { kind = kind; number = number; values = values }
