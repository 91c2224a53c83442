-- The walk over a list, from record to record.
use Rattle.std.specs.Prelude.{◌≡◌, List, [], ◌∷◌, ℕ, zero, suc, ◌+◌, ◌<◌, ◌≤◌, length}
use Rattle.records.specs.List.{Stands, frame, release, end, refused, stands_at}

-- where a walk goes on: after a record at the next place, and nowhere after the list's end or a refusal
abbrev pub after : Stands → (ℕ → List Stands) → List Stands
after (frame port time start count next) rest = rest next
after (release partition next) rest = rest next
after end rest = []
after (refused n) rest = []

-- what a walk from a place finds, as far as `fuel` places
unfoldable pub walk_for : ℕ → List ℕ → ℕ → List Stands
walk_for zero list at = []
walk_for (suc fuel) list at = stands_at list at ∷ after (stands_at list at) (walk_for fuel list)

-- every record has a byte, so no walk finds more than the list's length of them
abbrev pub walk : List ℕ → ℕ → List Stands
walk list at = walk_for (suc (length list)) list at

-- the last place of a walk is the list's end or a refusal
abbrev pub Stops : Stands → Type 0
Stops (frame port time start count next) = ⊥
Stops (release partition next) = ⊥
Stops end = Unit {0}
Stops (refused n) = Unit {0}

abbrev pub Stopped : List Stands → Type 0
Stopped [] = ⊥
Stopped (s ∷ []) = Stops s
Stopped (s ∷ t ∷ rest) = Stopped (t ∷ rest)

-- a record lies inside its list, with the next place above its own
abbrev pub Inside : List ℕ → ℕ → Stands → Type 0
Inside list at (frame port time start count next) = (at < start) × (start + count ≡ next) × (next ≤ length list)
Inside list at (release partition next) = (at < next) × (next ≤ length list)
Inside list at end = length list ≤ at
Inside list at (refused n) = Unit {0}
