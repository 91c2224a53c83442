-- What a call does to the meters: before step 9 nothing, from step 9 on to the SHARINDX entry's alone.
use Rattle.std.specs.Prelude.{◌≡◌, Bool, true, false, cond, List, ℕ, ◌<◌, ltb, eqb}
use Rattle.fields.specs.Fields.{sharindx}
use Rattle.ledger.specs.Row.{credit, since, cell}
use Rattle.settle.specs.declared.Verdict.{Verdict}
use Rattle.settle.specs.declared.Verdict.TheVariants.{Refused, Drop, Sent}
use Rattle.flat_answers.specs.declared.FlatVerdict.{FlatVerdict}
use Rattle.nights.specs.Policer.{Polices}

-- a verdict of step 9 or later: drop 9, 10 or 11, or sent
abbrev pub from_nine : Verdict → Bool
from_nine (Refused n) = false
from_nine (Drop n) = ltb 8 n
from_nine (Sent s) = true

-- for C and Rust: kind 1 with its number, or kind 2
abbrev pub from_nine_flat : FlatVerdict → Bool
from_nine_flat r = cond (eqb r.kind 1) (ltb 8 r.number) (eqb r.kind 2)

-- meter j has its credit and its time as before
abbrev pub Unmoved : List ℕ → List ℕ → ℕ → Type 0
Unmoved g after j = (cell after credit j ≡ cell g credit j) × (cell after since j ≡ cell g since j)

-- "The meter .. [is that] of the SHARINDX entry": of the 45 meters no other moves, and in this one "now" is stored
pub record OwnMeter (image g : List ℕ) (port time : ℕ) (bytes after : List ℕ) : Type 0 where
  pub k : ℕ
  pub polices : Polices image port bytes k
  pub others : (j : ℕ) → j < 45 → (j ≡ sharindx image k → ⊥) → Unmoved g after j
  pub now : cell after since (sharindx image k) ≡ time

-- what a verdict, of step 9 on or not, leaves of the meters
pub record Metered (image g : List ℕ) (port time : ℕ) (bytes : List ℕ) (nine : Bool) (after : List ℕ) : Type 0 where
  pub before : nine ≡ false → (j : ℕ) → j < 45 → Unmoved g after j
  pub own : nine ≡ true → OwnMeter image g port time bytes after
