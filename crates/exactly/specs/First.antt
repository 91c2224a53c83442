-- The first clause that holds, of a page in the paper's order: the one notion by which a load's number and a frame's verdict are said.
use Rattle.std.specs.Prelude.{◌≡◌, ◌⊎◌, List, [], ◌∷◌, Bool, true, cond, ℕ, ◌<◌, eqb}

-- a number, and what it stands for
pub record Clause : Type 1 where
  pub number : ℕ
  pub holds : Type 0

-- a clause by its number and its words
abbrev pub clause : ℕ → Type 0 → Clause
clause n p = record { number = n; holds = p }

-- a clause whose words are a test
abbrev pub test : ℕ → Bool → Clause
test n b = clause n (b ≡ true)

-- n is the number of the first clause that holds, and no clause before it does; where none holds, n is what `rest` says
abbrev pub FirstOr : List Clause → (ℕ → Type 0) → ℕ → Type 0
FirstOr [] rest n = rest n
FirstOr (c ∷ cs) rest n = (c.holds × (n ≡ c.number)) ⊎ ((c.holds → ⊥) × FirstOr cs rest n)

-- n is the number of the first clause that holds, and no clause before it does; 0 where none holds
abbrev pub First : List Clause → ℕ → Type 0
First cs n = FirstOr cs (λ k. k ≡ 0) n

-- the clause of number n holds
abbrev pub At : ℕ → List Clause → Type 0
At n [] = ⊥
At n (c ∷ cs) = cond (eqb c.number n) c.holds (At n cs)

-- no clause before number n holds
abbrev pub NoneBefore : ℕ → List Clause → Type 0
NoneBefore n [] = Unit {0}
NoneBefore n (c ∷ cs) = cond (eqb c.number n) (Unit {0}) ((c.holds → ⊥) × NoneBefore n cs)

-- an index below n of which p holds
abbrev pub Some : ℕ → (ℕ → Type 0) → Type 0
Some n p = (i : ℕ) × (i < n) × p i

-- r is what is said of a number exactly when the page gives this number; and the page gives one
pub record Exactly (A : Type 0) (page : ℕ → Type 0) (said : ℕ → A) (r : A) : Type 0 where
  pub when : (n : ℕ) → (page n → r ≡ said n) × (r ≡ said n → page n)
  pub some : (n : ℕ) × page n × (r ≡ said n)
