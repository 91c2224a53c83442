-- What a block ID names, from the rows and the manual's table 2 alone.
use Rattle.std.specs.Prelude.{Bool, false, cond, ◌||◌, List, [], ◌∷◌, ℕ, eqb, Result, Ok, Err}
use Rattle.image.specs.Rows.{Row, rows}
use Rattle.image.specs.declared.tables.Table.{Table}
use Rattle.image.specs.declared.tables.NoTable.{NoTable}
use Rattle.image.specs.declared.tables.NoTable.TheVariants.{NotCarried, Unknown}

-- what a block ID names: a table that is carried, another table of table 2, or nothing there
abbrev pub Block : Type 0
Block = Result Table NoTable

-- the twenty block IDs of the manual's table 2
abbrev pub table2 : List ℕ
table2 =
    0x00
    ∷ 0x01
    ∷ 0x02
    ∷ 0x03
    ∷ 0x04
    ∷ 0x05
    ∷ 0x06
    ∷ 0x07
    ∷ 0x08
    ∷ 0x09
    ∷ 0x0A
    ∷ 0x0B
    ∷ 0x0C
    ∷ 0x0D
    ∷ 0x0E
    ∷ 0x0F
    ∷ 0x10
    ∷ 0x11
    ∷ 0x12
    ∷ 0x4E
    ∷ []

-- the ID stands in a list of IDs
abbrev pub listed : ℕ → List ℕ → Bool
listed id [] = false
listed id (x ∷ xs) = eqb id x || listed id xs

-- the table of the first of some rows with this ID; where none has it, another ID of table 2, or none of its
abbrev pub block_in : ℕ → List Row → Block
block_in id [] = cond (listed id table2) (Err NotCarried) (Err Unknown)
block_in id (r ∷ rs) = cond (eqb id r.id) (Ok r.table) (block_in id rs)

-- what the ID names
unfoldable pub block_of : ℕ → Block
block_of id = block_in id rows
