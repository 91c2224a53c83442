-- A whole load's page: framing at each block that is reached, then the rules once the end block has passed; before both, 31 and for bytes 9.
use Rattle.std.specs.Prelude.{◌≡◌, true, false, List, [], ◌∷◌, ℕ, ◌%◌, length}
use Rattle.image.specs.Layout.{image_of}
use Rattle.stream.specs.Header.{device}
use Rattle.stream.specs.Paper.{none, words_of}
use Rattle.exactly.specs.First.{Clause, clause, FirstOr, First}
use Rattle.exactly.specs.Rules.{TooShort, rules_page}
use Rattle.exactly.specs.Framing.{Place, place, is_end, onward, framing_page}

-- what a stream is told from a place on: the first of framing that holds there; behind the end block the first of the rules, "0 means loaded";
-- else what is told from the next block on
pub data TellsFrom : Place → ℕ → Type 0 where
  breaks : {p : Place} {n : ℕ} → First (framing_page p) n → (n ≡ 0 → ⊥) → TellsFrom p n
  ends : {p : Place} {n : ℕ} → First (framing_page p) 0 → is_end p ≡ true → First (rules_page (image_of p.lists)) n → TellsFrom p n
  goes : {p : Place} {n : ℕ} → First (framing_page p) 0 → is_end p ≡ false → TellsFrom (onward p) n → TellsFrom p n

-- what a stream is told: 10 where it has no word, "1: word 0 differs", then from the first block on
pub data Tells : List ℕ → ℕ → Type 0 where
  nothing : Tells [] 10
  differs : {w : ℕ} {ws : List ℕ} → (w ≡ device → ⊥) → Tells (w ∷ ws) 1
  begins : {w : ℕ} {ws : List ℕ} {n : ℕ} → w ≡ device → TellsFrom (place (w ∷ []) none ws) n → Tells (w ∷ ws) n

-- what is asked of words before the stream
abbrev pub before_words : List ℕ → List Clause
before_words buffer = clause 31 (TooShort buffer) ∷ []

-- "for byte input 31, 9": "byte input not a multiple of 4 long"
abbrev pub before_bytes : List ℕ → List ℕ → List Clause
before_bytes buffer bytes = clause 31 (TooShort buffer) ∷ clause 9 (length bytes % 4 ≡ 0 → ⊥) ∷ []

-- a whole load of words: 31, then the stream
abbrev pub WordsPage : List ℕ → List ℕ → ℕ → Type 0
WordsPage buffer words = FirstOr (before_words buffer) (Tells words)

-- a whole load of bytes: 31, 9, then the stream that the bytes are
abbrev pub BytesPage : List ℕ → List ℕ → ℕ → Type 0
BytesPage buffer bytes = FirstOr (before_bytes buffer bytes) (Tells (words_of bytes))
