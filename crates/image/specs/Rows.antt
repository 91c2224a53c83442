-- The tables as one list of rows (document 01, "The stream"). A table's place, size, most entries and start come from its row and from nowhere else.
use Rattle.std.specs.Prelude.{List, [], ◌∷◌, ℕ, zero, suc, ◌+◌, ◌*◌, length, get_or}
use Rattle.image.specs.declared.tables.Table.{Table}
use Rattle.image.specs.declared.tables.Table.TheVariants.{AddressLookup, Policing, VlanLookup, Forwarding, MacConfiguration, LookupParameters, ForwardingParameters, GeneralParameters, XmiiModeParameters, Retagging}

-- a row: its table, its block ID, the words of an entry, the most entries that it takes
pub record Row : Type 0 where
  pub table : Table
  pub id : ℕ
  pub size : ℕ
  pub most : ℕ

abbrev row : Table → ℕ → ℕ → ℕ → Row
row t i s m = record { table = t; id = i; size = s; most = m }

-- document 01's table, then those of document 02: a row that joins stands behind the others, whatever its ID
abbrev pub rows : List Row
rows =
    row AddressLookup 0x05 3 1024
    ∷ row Policing 0x06 2 45
    ∷ row VlanLookup 0x07 2 4096
    ∷ row Forwarding 0x08 2 13
    ∷ row MacConfiguration 0x09 7 5
    ∷ row LookupParameters 0x0D 1 1
    ∷ row ForwardingParameters 0x0E 3 1
    ∷ row GeneralParameters 0x11 10 1
    ∷ row XmiiModeParameters 0x4E 1 1
    ∷ row Retagging 0x12 2 32
    ∷ []

-- a table's place in the rows
abbrev pub index_of : Table → ℕ
index_of AddressLookup = 0
index_of Policing = 1
index_of VlanLookup = 2
index_of Forwarding = 3
index_of MacConfiguration = 4
index_of LookupParameters = 5
index_of ForwardingParameters = 6
index_of GeneralParameters = 7
index_of XmiiModeParameters = 8
index_of Retagging = 9

-- how many tables there are
abbrev pub table_count : ℕ
table_count = length rows

-- no row: what stands past the list's end
abbrev pub blank : Row
blank = row AddressLookup 0 0 0

abbrev pub row_at : ℕ → Row
row_at k = get_or rows k blank

abbrev pub row_of : Table → Row
row_of t = row_at (index_of t)

abbrev pub size_of : Table → ℕ
size_of t = (row_of t).size

abbrev pub most_of : Table → ℕ
most_of t = (row_of t).most

-- a row's words in the image: its most entries
abbrev pub room : Row → ℕ
room r = r.size * r.most

-- the words of the first k of some rows
abbrev pub before : ℕ → List Row → ℕ
before zero rs = 0
before (suc k) [] = 0
before (suc k) (r ∷ rs) = room r + before k rs

-- where a table's entries start in the image: behind the rooms of the rows before its own
abbrev pub start_of : Table → ℕ
start_of t = before (index_of t) rows
