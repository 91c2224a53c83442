-- CRC-32 by table, four words a turn (crc's Four): a table for each word of a turn, and what a word leaves by its table.
use Rattle.std.specs.Prelude.{List, ℕ, ◌+◌, ◌/◌, ◌%◌, get_or}
use Rattle.std.specs.Int.Bits.{bit_xor}
use Rattle.crc_table.specs.Table.{IsTable}

-- the four tables of a turn, in the order of its words
pub record AreTables (first second third last : List ℕ) : Type 0 where
  pub one : IsTable 3 first
  pub two : IsTable 2 second
  pub three : IsTable 1 third
  pub four : IsTable 0 last

-- what a word leaves, by the table: an entry for each of its bytes, the low byte's in the last row
unfoldable pub looked : List ℕ → ℕ → ℕ
looked l w =
    bit_xor (bit_xor (bit_xor (get_or l (768 + w % 256) 0) (get_or l (512 + w / 256 % 256) 0)) (get_or l (256 + w / 65536 % 256) 0))
    (get_or l (w / 16777216) 0)
