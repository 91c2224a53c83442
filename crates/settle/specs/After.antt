-- What a course spends of a row, and the row once it is spent.
use Rattle.std.specs.Prelude.{List, ℕ}
use Rattle.spend.specs.Spend.{Spent}
use Rattle.plan.specs.declared.Course.{Course}
use Rattle.settle.specs.Settle.{spent_with, settled_by, held_at, stored}

-- what a course spends of a row
abbrev pub spent_at : List ℕ → Course → ℕ → ℕ → Spent
spent_at g w time l = spent_with w (held_at g w) time l

-- the row once it is spent
abbrev pub row_after : List ℕ → Course → ℕ → ℕ → List ℕ
row_after g w time l = stored g w (settled_by w (spent_at g w time l)).held
