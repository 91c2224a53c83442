-- Demand 3's words: "Fix one list of entries for each table", streams that carry these lists, and what a load gets that is sent one.
use Rattle.std.specs.Prelude.{◌≡◌, List, ℕ, ◌≤◌, length}
use Rattle.image.specs.Rows.{table_count, row_of, room}
use Rattle.image.specs.Layout.{image_in, list_of}
use Rattle.image.specs.declared.tables.Table.{Table}
use Rattle.stream.specs.Header.{length_of}
use Rattle.stream.specs.Paper.{ended, numbered}
use Rattle.stream.specs.Machine.{Written}
use Rattle.stream.specs.Cutting.{words, Cuts}
use Rattle.stream.specs.Order.{Piece, streamed, All, brings}
use Rattle.flat_loads.specs.Calls.{FlatWritten}
use Rattle.loads.specs.Moves.{RestKept}

-- blocks that "carry these lists, with blocks cut between entries and laid in any order that keeps each list": each is of whole entries of a table,
-- together they bring each table exactly its list, there is a list for each table, and no list passes its table's most entries
pub record Carries (lists : List (List ℕ)) (pieces : List Piece) : Type 0 where
  pub proper : All pieces
  pub each : (t : Table) → brings t pieces ≡ list_of lists t
  pub all : length lists ≡ table_count
  pub fits : (t : Table) → length (list_of lists t) ≤ room (row_of t)

-- a whole stream that carries these lists, with an end block, in writes of 1 to 64 words
pub record Sent (lists : List (List ℕ)) (cs : List (List ℕ)) : Type 0 where
  pub pieces : List Piece
  pub first : ℕ
  pub second : ℕ
  pub carries : Carries lists pieces
  pub ends : length_of second ≡ 0
  pub stream : words cs ≡ streamed pieces first second
  pub cuts : Cuts cs

-- "the answer and the image that demand 2 gives for the lists", and the buffer's rest as it was
pub record Gets (lists : List (List ℕ)) (buffer : List ℕ) (w : Written) : Type 0 where
  pub answer : w.answer ≡ numbered (ended lists).number
  pub image : image_in w.buffer ≡ (ended lists).image
  pub rest : RestKept buffer w.buffer

-- and for C and Rust: the answer is its number
pub record GetsFlat (lists : List (List ℕ)) (buffer : List ℕ) (w : FlatWritten) : Type 0 where
  pub answer : w.answer ≡ (ended lists).number
  pub image : image_in w.buffer ≡ (ended lists).image
  pub rest : RestKept buffer w.buffer
