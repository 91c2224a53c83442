-- Scans over the indices below n: does every one pass, does one pass, which is the first, which has the least key, what is the sum.
-- A loop over i keeps the scan of the first i indices, and each law is one way that such a loop goes on or ends.
use Rattle.std.specs.Prelude.{◌≡◌, Bool, true, false, cond, not, ◌&&◌, ◌||◌, ℕ, zero, suc, ◌+◌, ◌<◌, ◌≤◌, List, ltb, eqb, length, get_or}

-- every index below n passes p
unfoldable pub every : ℕ → (ℕ → Bool) → Bool
every zero p = true
every (suc n) p = every n p && p n

-- some index below n passes p
unfoldable pub some_below : ℕ → (ℕ → Bool) → Bool
some_below zero p = false
some_below (suc n) p = some_below n p || p n

-- the first index below n that passes p; n where none does
unfoldable pub first : ℕ → (ℕ → Bool) → ℕ
first zero p = zero
first (suc n) p = cond (ltb (first n p) n) (first n p) (cond (p n) n (suc n))

-- of the indices below n that pass p the first with the least key; n where none passes
unfoldable pub least : ℕ → (ℕ → Bool) → (ℕ → ℕ) → ℕ
least zero p key = zero
least (suc n) p key =
    cond (p n) (cond (ltb (least n p key) n) (cond (ltb (key n) (key (least n p key))) n (least n p key)) n)
    (cond (ltb (least n p key) n) (least n p key) (suc n))

-- the sum of f over the indices below n
unfoldable pub total : ℕ → (ℕ → ℕ) → ℕ
total zero f = zero
total (suc n) f = total n f + f n

-- two different indices below n have one value of f
unfoldable pub twice : ℕ → (ℕ → ℕ) → Bool
twice n f = some_below n (λ j. some_below j (λ i. eqb (f i) (f j)))

-- ---- twice, by marks: a mark for each value that has been
abbrev pub flag : Bool → ℕ
flag true = 1
flag false = 0

-- the list's v-th mark says whether an index below n has the value v
abbrev pub Marks : ℕ → (ℕ → ℕ) → List ℕ → Type 0
Marks n f marks = (v : ℕ) → v < length marks → get_or marks v 0 ≡ flag (some_below n (λ i. eqb (f i) v))

-- the loop that counts marks which were set already: what it has after i turns
pub record Counting (f : ℕ → ℕ) (size i sum : ℕ) (marks : List ℕ) : Type 0 where
  pub long : length marks ≡ size
  pub marked : Marks i f marks
  pub counted : eqb sum 0 ≡ not (twice i f)
  pub small : sum ≤ i

-- k is none of the first n numbers, as a match's arm for all others has it
abbrev pub Misses : ℕ → ℕ → Type 0
Misses zero k = Unit {0}
Misses (suc n) k = Misses n k × (k ≡ n → ⊥)
