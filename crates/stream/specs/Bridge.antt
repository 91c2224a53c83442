-- What the bridge says of the paper's form and the machine's: that they agree.
use Rattle.std.specs.Prelude.{◌≡◌, List, ◌++◌, ℕ, ◌*◌, ◌≤◌, length, drop, replicate}
use Rattle.image.specs.Rows.{room, table_count, row_of, size_of}
use Rattle.image.specs.Layout.{image_words, layout, list_of}
use Rattle.image.specs.declared.tables.Table.{Table}
use Rattle.stream.specs.Paper.{Framed, refused, cut, passed, had}
use Rattle.stream.specs.Machine.{Machine, at, told, finish, answer_of}
use Rattle.stream.specs.declared.Answer.TheVariants.{More}

-- ---- what agreeing is

-- the end block is not complete: no answer yet, and the buffer's rest is kept
pub record Waits (rest : List ℕ) (m : Machine) : Type 0 where
  pub more : answer_of m.load.phase ≡ More
  pub whole : image_words ≤ length m.buffer
  pub kept : drop image_words m.buffer ≡ rest

-- the machine stands where the paper's form says, over a buffer with this rest
abbrev pub Agrees : List ℕ → Framed → Machine → Type 0
Agrees rest (refused n) m = m ≡ at (told n) (replicate image_words 0 ++ rest)
Agrees rest cut m = Waits rest m
Agrees rest (passed lists) m = m ≡ finish (layout 0 lists ++ rest)

-- ---- lists that a load can have come to
pub record Sound (lists : List (List ℕ)) : Type 0 where
  pub all : length lists ≡ table_count
  pub whole : (t : Table) → had lists t * size_of t ≡ length (list_of lists t)
  pub fits : (t : Table) → length (list_of lists t) ≤ room (row_of t)
