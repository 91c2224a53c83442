-- Tests on a page: one that decides a clause, holding where the clause does and failing where it does not; and that no two clauses have one number.
use Rattle.std.specs.Prelude.{◌≡◌, List, [], ◌∷◌, Bool, true, false, cond, not, ◌&&◌, ◌||◌, ℕ, eqb}
use Rattle.exactly.specs.First.{Clause}

-- a test that holds exactly when p does
abbrev pub Decides : Bool → Type 0 → Type 0
Decides t p = (t ≡ true → p) × (p → t ≡ true)

-- each clause of a page has its test
abbrev pub Decided : List Clause → List Bool → Type 0
Decided [] ts = Unit {0}
Decided (c ∷ cs) [] = ⊥
Decided (c ∷ cs) (t ∷ ts) = Decides t c.holds × Decided cs ts

-- the number of the first clause whose test holds, as a nested cond; `none` where no test does
abbrev pub first_of : List Clause → List Bool → ℕ → ℕ
first_of [] ts none = none
first_of (c ∷ cs) [] none = none
first_of (c ∷ cs) (t ∷ ts) none = cond t c.number (first_of cs ts none)

-- the test of some clause before number n holds
abbrev pub before : ℕ → List Clause → List Bool → Bool
before n [] ts = false
before n (c ∷ cs) [] = false
before n (c ∷ cs) (t ∷ ts) = cond (eqb c.number n) false (cond t true (before n cs ts))

-- some clause has the number n
abbrev pub has : ℕ → List Clause → Bool
has n [] = false
has n (c ∷ cs) = eqb c.number n || has n cs

-- no two clauses have one number
abbrev pub distinct : List Clause → Bool
distinct [] = true
distinct (c ∷ cs) = not (has c.number cs) && distinct cs
