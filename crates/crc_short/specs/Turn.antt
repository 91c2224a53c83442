-- How far two words reach.
use Rattle.std.specs.Prelude.{[], ◌∷◌, ℕ, get_or}

-- ---- the five words that a turn looks up

-- how many bits leave with the k-th of them: one word follows the first three, and none the last two
unfoldable pub reach : ℕ → ℕ
reach k = get_or (64 ∷ 64 ∷ 64 ∷ []) k 32
