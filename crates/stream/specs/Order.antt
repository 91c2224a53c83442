-- Blocks as pieces, laid one after the other in any order and cut between entries, and what they bring to each table.
use Rattle.std.specs.Prelude.{◌≡◌, Bool, false, cond, List, [], ◌∷◌, ◌++◌, ℕ, ◌%◌, ◌<◌, eqb, length, Ok, Err}
use Rattle.crc.specs.Crc.{checksum}
use Rattle.image.specs.Rows.{index_of, size_of}
use Rattle.image.specs.Blocks.{Block, block_of}
use Rattle.image.specs.declared.tables.Table.{Table}
use Rattle.image.specs.declared.tables.NoTable.TheVariants.{NotCarried, Unknown}
use Rattle.stream.specs.Header.{device, id_of, length_of}
use Rattle.stream.specs.Paper.{put}

-- a block: its two header words, whose free bits are as they are, and its data
pub record Piece : Type 0 where
  pub first : ℕ
  pub second : ℕ
  pub words : List ℕ

-- what its ID names
abbrev pub block_in : Piece → Block
block_in p = block_of (id_of p.first)

-- a block in the stream, with its checksums
abbrev pub sent : Piece → List ℕ
sent p = p.first ∷ p.second ∷ checksum (p.first ∷ p.second ∷ []) ∷ (p.words ++ (checksum p.words ∷ []))

-- blocks one after the other, then the end block e0 e1 with the global checksum over every word before it
unfoldable pub laid : List ℕ → List Piece → ℕ → ℕ → List ℕ
laid before [] e0 e1 = e0 ∷ e1 ∷ checksum (before ++ (e0 ∷ e1 ∷ [])) ∷ []
laid before (p ∷ ps) e0 e1 = sent p ++ laid (before ++ sent p) ps e0 e1

-- a whole stream
abbrev pub streamed : List Piece → ℕ → ℕ → List ℕ
streamed ps e0 e1 = device ∷ laid (device ∷ []) ps e0 e1

-- a block of whole entries of a table that is carried, its length told
pub record Proper (p : Piece) : Type 0 where
  pub table : Table
  pub named : block_in p ≡ Ok table
  pub some : 0 < length p.words
  pub told : length_of p.second ≡ length p.words
  pub whole : length p.words % size_of table ≡ 0

abbrev pub All : List Piece → Type 0
All [] = Unit {0}
All (p ∷ ps) = Proper p × All ps

-- is a block this table's?
abbrev pub is_of : Table → Block → Bool
is_of t (Ok u) = eqb (index_of t) (index_of u)
is_of t (Err NotCarried) = false
is_of t (Err Unknown) = false

-- what blocks bring to a table: its words in the order in which they come
unfoldable pub brings : Table → List Piece → List ℕ
brings t [] = []
brings t (p ∷ ps) = cond (is_of t (block_in p)) (p.words ++ brings t ps) (brings t ps)

-- a block's words put to its table's list
abbrev pub put_to : List (List ℕ) → Block → List ℕ → List (List ℕ)
put_to lists (Ok t) words = put lists t words
put_to lists (Err NotCarried) words = lists
put_to lists (Err Unknown) words = lists

-- the lists after some blocks
unfoldable pub after : List (List ℕ) → List Piece → List (List ℕ)
after lists [] = lists
after lists (p ∷ ps) = after (put_to lists (block_in p) p.words) ps
