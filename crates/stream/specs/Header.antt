-- What a block's header says, and the numbers 3 to 6 that it can be refused with. Both forms and the code share these tests.
use Rattle.std.specs.Prelude.{Bool, true, cond, not, ℕ, ◌+◌, ◌/◌, ◌%◌, ltb, eqb, Result, Ok, Err}
use Rattle.image.specs.Rows.{size_of, most_of}
use Rattle.image.specs.declared.tables.Table.{Table}
use Rattle.image.specs.Blocks.{Block}
use Rattle.image.specs.declared.tables.NoTable.{NoTable}
use Rattle.image.specs.declared.tables.NoTable.TheVariants.{NotCarried, Unknown}
use Rattle.stream.specs.declared.WrongHeader.{WrongHeader}
use Rattle.stream.specs.declared.WrongHeader.TheVariants.{UnknownId, UncarriedId, PartialEntry, TooManyEntries}

-- "Word 0 is 9E00030E"
abbrev pub device : ℕ
device = 0x9E00030E

-- "block ID in bits 31:24 of the first word"
abbrev pub id_of : ℕ → ℕ
id_of first = first / 0x1000000

-- "length in data words in bits 23:0 of the second"
abbrev pub length_of : ℕ → ℕ
length_of second = second % 0x1000000

-- what a block's header comes to: the number that it is refused with, or its table
pub data Header : Type 0 where
  Wrong : ℕ → Header
  Right : Table → Header

-- a block of n data words, by what its ID names and the entries that each table had: 3 "ID not in table 2", 4 "not in the table above",
-- 5 "length not whole entries", 6 "the table would pass its most entries"; or its table
abbrev pub header_of : Block → ℕ → (Table → ℕ) → Header
header_of (Err Unknown) n had = Wrong 3
header_of (Err NotCarried) n had = Wrong 4
header_of (Ok t) n had = cond (not (eqb (n % size_of t) 0)) (Wrong 5) (cond (ltb (most_of t) (had t + n / size_of t)) (Wrong 6) (Right t))

-- an ID that names no table that is carried
abbrev pub wrong_id : NoTable → WrongHeader
wrong_id NotCarried = UncarriedId
wrong_id Unknown = UnknownId

-- the code's refusals of a header by their numbers, and what its answer comes to
abbrev pub wrong_number : WrongHeader → ℕ
wrong_number UnknownId = 3
wrong_number UncarriedId = 4
wrong_number PartialEntry = 5
wrong_number TooManyEntries = 6

abbrev pub header_told : Result Table WrongHeader → Header
header_told (Ok t) = Right t
header_told (Err e) = Wrong (wrong_number e)

-- the number of a header's refusal passes a test
abbrev pub wrong_passes : (ℕ → Bool) → Header → Bool
wrong_passes p (Wrong n) = p n
wrong_passes p (Right t) = true
