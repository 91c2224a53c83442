-- The paper's form (document 01, "The stream" and "Numbers for a refused load"): a stream is walked block by block, and gives each table's list of words.
use Rattle.std.specs.Prelude.{cond, not, List, [], ◌∷◌, ◌++◌, ℕ, zero, suc, ◌+◌, ◌*◌, ◌/◌, ◌%◌, eqb, length, take, drop, set, replicate}
use Rattle.crc.specs.Crc.{checksum}
use Rattle.image.specs.Rows.{index_of, table_count, size_of}
use Rattle.image.specs.Blocks.{block_of}
use Rattle.image.specs.Layout.{image_words, list_of, image_of}
use Rattle.image.specs.declared.tables.Table.{Table}
use Rattle.rules.specs.Rules.{ruled}
use Rattle.image.specs.Loaded.{too_short}
use Rattle.stream.specs.declared.Answer.{Answer}
use Rattle.stream.specs.declared.Answer.TheVariants.{Loaded, Refused}
use Rattle.stream.specs.Header.{Header, Wrong, Right, device, id_of, length_of, header_of}

-- what the framing rules make of a stream: refused with a number, cut before its end block is complete, or passed with each table's words
pub data Framed : Type 0 where
  refused : ℕ → Framed
  cut : Framed
  passed : List (List ℕ) → Framed

-- no table has arrived: a list for each with nothing in it
abbrev pub none : List (List ℕ)
none = replicate table_count []

-- "a table may come in several blocks, whose entries follow on"
abbrev pub put : List (List ℕ) → Table → List ℕ → List (List ℕ)
put lists t words = set lists (index_of t) (list_of lists t ++ words)

-- the entries that have come for a table
abbrev pub had : List (List ℕ) → Table → ℕ
had lists t = length (list_of lists t) / size_of t

-- a header's refusal, or what follows for its table
abbrev pub headed_by : Header → (Table → Framed) → Framed
headed_by (Wrong n) next = refused n
headed_by (Right t) next = next t

-- a block's data, then "7 after the data", then what follows
abbrev pub checked : List ℕ → List ℕ → (ℕ → List ℕ → Framed) → Framed
checked words [] next = cut
checked words (sum ∷ rest) next = cond (not (eqb sum (checksum words))) (refused 7) (next sum rest)

-- Framing, "in this order at a block: 8 for an end block; else 2, 3, 4, 5, 6, and 7 after the data". `before` is every word so far, of which the
-- global checksum covers all and the end block's first two words; `lists` is what each table has. A block takes three words at least, so as many
-- turns as words are enough.
unfoldable pub blocks : ℕ → List ℕ → List (List ℕ) → List ℕ → Framed
blocks zero before lists ws = cut
blocks (suc turns) before lists [] = cut
blocks (suc turns) before lists (h0 ∷ []) = cut
blocks (suc turns) before lists (h0 ∷ h1 ∷ []) = cut
blocks (suc turns) before lists (h0 ∷ h1 ∷ h2 ∷ rest) =
    cond (eqb (length_of h1) 0) (cond (not (eqb h2 (checksum (before ++ (h0 ∷ h1 ∷ []))))) (refused 8) (passed lists))
    (cond (not (eqb h2 (checksum (h0 ∷ h1 ∷ [])))) (refused 2)
    (headed_by (header_of (block_of (id_of h0)) (length_of h1) (had lists))
    (λ t. checked (take (length_of h1) rest) (drop (length_of h1) rest)
    (λ sum after. blocks turns (before ++ (h0 ∷ h1 ∷ h2 ∷ (take (length_of h1) rest ++ (sum ∷ [])))) (put lists t (take (length_of h1) rest)) after))))

-- "1: word 0 differs"; then the blocks
unfoldable pub framed : List ℕ → Framed
framed [] = cut
framed (w ∷ ws) = cond (not (eqb w device)) (refused 1) (blocks (length ws) (w ∷ []) none ws)

-- what a stream comes to: its number, 0 for loaded, and its image
pub record Outcome : Type 0 where
  pub number : ℕ
  pub image : List ℕ

-- a refused load leaves the image zero
abbrev pub refused_with : ℕ → Outcome
refused_with n = record { number = n; image = replicate image_words 0 }

-- the rules, "run once the end block has passed", on the image that the lists fix
abbrev pub ended : List (List ℕ) → Outcome
ended lists = cond (eqb (ruled (image_of lists)) 0) (record { number = 0; image = image_of lists }) (refused_with (ruled (image_of lists)))

-- a stream's outcome; "10: words end before the end block is complete"
abbrev pub outcome_of : Framed → Outcome
outcome_of (refused n) = refused_with n
outcome_of cut = refused_with 10
outcome_of (passed lists) = ended lists

abbrev pub loaded : List ℕ → Outcome
loaded words = outcome_of (framed words)

-- ---- a whole load of words and of bytes

-- what a whole load leaves: its answer and the buffer
pub record Whole : Type 0 where
  pub answer : Answer
  pub buffer : List ℕ

-- an answer by its number in document 01: "answer 0 means loaded"
abbrev pub numbered : ℕ → Answer
numbered n = cond (eqb n 0) Loaded (Refused n)

-- the image goes into the buffer's first words, "whose rest is never written"
abbrev pub into : Outcome → List ℕ → Whole
into o buffer = record { answer = numbered o.number; buffer = o.image ++ drop image_words buffer }

-- "9, 30, 31 and 32 leave everything as found"
abbrev pub as_found : ℕ → List ℕ → Whole
as_found n buffer = record { answer = Refused n; buffer = buffer }

-- 31, then the stream
unfoldable pub loaded_words : List ℕ → List ℕ → Whole
loaded_words buffer words = cond (too_short buffer) (as_found 31 buffer) (into (loaded words) buffer)

-- "32-bit words, each sent most significant byte first"
unfoldable pub words_of : List ℕ → List ℕ
words_of (a ∷ b ∷ c ∷ d ∷ bytes) = (((a * 256 + b) * 256 + c) * 256 + d) ∷ words_of bytes
words_of (a ∷ b ∷ c ∷ []) = []
words_of (a ∷ b ∷ []) = []
words_of (a ∷ []) = []
words_of [] = []

-- "for byte input 31, 9": "byte input not a multiple of 4 long"
unfoldable pub loaded_bytes : List ℕ → List ℕ → Whole
loaded_bytes buffer bytes =
    cond (too_short buffer) (as_found 31 buffer)
    (cond (not (eqb (length bytes % 4) 0)) (as_found 9 buffer) (into (loaded (words_of bytes)) buffer))
