-- "A stream is refused exactly when a rule there is broken, and with the first one broken": every answer that the promises of a whole load permit.
use Rattle.std.specs.Prelude.{◌≡◌, refl, Bool, true, false, cond, not, List, [], ◌∷◌, ℕ, ◌%◌, eqb, length}
use Rattle.std.proofs.Common.{sym, ◌∙◌, ap, eqb-true}
use Rattle.image.specs.Layout.{image_of}
use Rattle.image.specs.Loaded.{too_short}
use Rattle.rules.specs.Rules.{ruled}
use Rattle.stream.specs.declared.Answer.{Answer}
use Rattle.stream.specs.declared.Answer.TheVariants.{Loaded, Refused}
use Rattle.stream.specs.Paper.{Whole, passed, framed, as_found, into, loaded, numbered, loaded_words, words_of, loaded_bytes}
use Rattle.stream.specs.Leaves.{Ends}
use Rattle.flat_numbers.specs.Flat.{number_of}
use Rattle.flat_loads.specs.Calls.{LoadsWords, LoadsBytes}
use Rattle.exactly.specs.First.{Exactly}
use Rattle.exactly.specs.FirstLaws.{same_first_or, first_or_is, exactly}
use Rattle.exactly.specs.DecidesLaws.{also, by_lt, by_eq, by_not}
use Rattle.exactly.specs.Load.{Tells, before_words, before_bytes, WordsPage, BytesPage}
use Rattle.exactly.specs.LoadLaws.{ruled_number, tells, same_told}

-- ---- the pages give a number each, and the loads answer it

abbrev number_of_words : List ℕ → List ℕ → ℕ
number_of_words buffer words = cond (too_short buffer) 31 (loaded words).number

abbrev number_of_bytes : List ℕ → List ℕ → ℕ
number_of_bytes buffer bytes = cond (too_short buffer) 31 (cond (not (eqb (length bytes % 4) 0)) 9 (loaded (words_of bytes)).number)

words_first : (buffer words : List ℕ) → WordsPage buffer words (number_of_words buffer words)
words_first buffer words = first_or_is (before_words buffer) (too_short buffer ∷ []) (Tells words) (loaded words).number (also (by_lt (length buffer) 11520) tt) (tells words)

bytes_first : (buffer bytes : List ℕ) → BytesPage buffer bytes (number_of_bytes buffer bytes)
bytes_first buffer bytes =
    first_or_is (before_bytes buffer bytes) (too_short buffer ∷ not (eqb (length bytes % 4) 0) ∷ []) (Tells (words_of bytes)) (loaded (words_of bytes)).number
    (also (by_lt (length buffer) 11520) (also (by_not _ (by_eq (length bytes % 4) 0)) tt)) (tells (words_of bytes))

words_same : (buffer words : List ℕ) (m n : ℕ) → WordsPage buffer words m → WordsPage buffer words n → m ≡ n
words_same buffer words = same_first_or (before_words buffer) (Tells words) (λ m n. same_told)

bytes_same : (buffer bytes : List ℕ) (m n : ℕ) → BytesPage buffer bytes m → BytesPage buffer bytes n → m ≡ n
bytes_same buffer bytes = same_first_or (before_bytes buffer bytes) (Tells (words_of bytes)) (λ m n. same_told)

words_answer : (buffer words : List ℕ) → (loaded_words buffer words).answer ≡ numbered (number_of_words buffer words)
unfolding loaded_words
words_answer buffer words = go (too_short buffer)
  where
    go : (a : Bool) → (cond a (as_found 31 buffer) (into (loaded words) buffer)).answer ≡ numbered (cond a 31 (loaded words).number)
    go true = refl
    go false = refl

bytes_answer : (buffer bytes : List ℕ) → (loaded_bytes buffer bytes).answer ≡ numbered (number_of_bytes buffer bytes)
unfolding loaded_bytes
bytes_answer buffer bytes = go (too_short buffer) (not (eqb (length bytes % 4) 0)) (into (loaded (words_of bytes)) buffer) refl
  where
    go : (a b : Bool) (w : Whole) → w.answer ≡ numbered (loaded (words_of bytes)).number
        → (cond a (as_found 31 buffer) (cond b (as_found 9 buffer) w)).answer ≡ numbered (cond a 31 (cond b 9 (loaded (words_of bytes)).number))
    go true b w e = refl
    go false true w e = refl
    go false false w e = e

-- an answer's number
number_back : (n : ℕ) → number_of (numbered n) ≡ n
number_back n = go (eqb n 0) refl
  where
    go : (t : Bool) → eqb n 0 ≡ t → number_of (cond t Loaded (Refused n)) ≡ n
    go true e = sym (eqb-true n 0 e)
    go false e = refl

-- ---- the theorems

-- `load_words`: every answer is the one of the first of the page that holds, 0 for loaded
pub words_told_the_first : (buffer words : List ℕ) (r : Answer) (after : List ℕ) → Ends (loaded_words buffer words) r after
    → Exactly Answer (WordsPage buffer words) numbered r
words_told_the_first buffer words r after p =
    exactly Answer (WordsPage buffer words) numbered number_of r _ number_back (words_same buffer words) (words_first buffer words)
    (p.told ∙ words_answer buffer words)

-- `load_bytes`
pub bytes_told_the_first : (buffer bytes : List ℕ) (r : Answer) (after : List ℕ) → Ends (loaded_bytes buffer bytes) r after
    → Exactly Answer (BytesPage buffer bytes) numbered r
bytes_told_the_first buffer bytes r after p =
    exactly Answer (BytesPage buffer bytes) numbered number_of r _ number_back (bytes_same buffer bytes) (bytes_first buffer bytes)
    (p.told ∙ bytes_answer buffer bytes)

-- the same of the number that C and Rust get
pub words_told_the_first_flat : (buffer words : List ℕ) (r : ℕ) (after : List ℕ) → LoadsWords buffer words r after → Exactly ℕ (WordsPage buffer words) (λ n. n) r
words_told_the_first_flat buffer words r after p =
    exactly ℕ (WordsPage buffer words) (λ n. n) (λ n. n) r _ (λ n. refl) (words_same buffer words) (words_first buffer words)
    (p.told ∙ ap number_of (words_answer buffer words) ∙ number_back _)

-- and of bytes
pub bytes_told_the_first_flat : (buffer bytes : List ℕ) (r : ℕ) (after : List ℕ) → LoadsBytes buffer bytes r after → Exactly ℕ (BytesPage buffer bytes) (λ n. n) r
bytes_told_the_first_flat buffer bytes r after p =
    exactly ℕ (BytesPage buffer bytes) (λ n. n) (λ n. n) r _ (λ n. refl) (bytes_same buffer bytes) (bytes_first buffer bytes)
    (p.told ∙ ap number_of (bytes_answer buffer bytes) ∙ number_back _)

-- ---- where framing passes, a load of words into a buffer with room answers what the rules answer

module _ (buffer words : List ℕ) (lists : List (List ℕ)) (room : too_short buffer ≡ false) (passes : framed words ≡ passed lists) where
  number_ruled : number_of_words buffer words ≡ ruled (image_of lists)
  number_ruled = ap (λ (t : Bool). cond t 31 (loaded words).number) room ∙ ruled_number words lists passes

  pub words_ruled : (r : Answer) (after : List ℕ) → Ends (loaded_words buffer words) r after → r ≡ numbered (ruled (image_of lists))
  words_ruled r after p = p.told ∙ words_answer buffer words ∙ ap numbered number_ruled

  pub words_ruled_flat : (r : ℕ) (after : List ℕ) → LoadsWords buffer words r after → r ≡ ruled (image_of lists)
  words_ruled_flat r after p = p.told ∙ ap number_of (words_answer buffer words) ∙ number_back _ ∙ number_ruled
