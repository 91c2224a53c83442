-- Framing's page at a place where a block begins: each number's words from document 01's row, without the order, and then in the paper's order.
use Rattle.std.specs.Prelude.{Bool, true, false, not, ◌&&◌, ◌||◌, List, [], ◌∷◌, ◌++◌, ℕ, ◌+◌, ◌/◌, ◌%◌, ltb, eqb, get_or, take, drop, Ok, Err}
use Rattle.crc.specs.Crc.{checksum}
use Rattle.image.specs.Rows.{size_of, most_of}
use Rattle.image.specs.Blocks.{Block, block_of}
use Rattle.image.specs.declared.tables.Table.{Table}
use Rattle.image.specs.declared.tables.Table.TheVariants.{AddressLookup}
use Rattle.image.specs.declared.tables.NoTable.TheVariants.{NotCarried, Unknown}
use Rattle.stream.specs.Header.{id_of, length_of}
use Rattle.stream.specs.Paper.{put, had}
use Rattle.exactly.specs.First.{Clause, test}
use Rattle.exactly.specs.Ids.{unknown_id, other_id, carried_id}

-- where a block begins: every word before it, what each table has, and the words from it on
pub record Place : Type 0 where
  pub before : List ℕ
  pub lists : List (List ℕ)
  pub words : List ℕ

-- a place by its three parts
abbrev pub place : List ℕ → List (List ℕ) → List ℕ → Place
place before lists words = record { before = before; lists = lists; words = words }

-- ---- what stands at a place

-- the three words of its header have come
abbrev pub headed : List ℕ → Bool
headed [] = false
headed (a ∷ []) = false
headed (a ∷ b ∷ []) = false
headed (a ∷ b ∷ c ∷ rest) = true

-- "block ID in bits 31:24 of the first word"
abbrev pub id_at : Place → ℕ
id_at p = id_of (get_or p.words 0 0)

-- what the ID names
abbrev pub block_at : Place → Block
block_at p = block_of (id_at p)

-- the ID's table; an ID that names none is asked for no table
abbrev pub table_in : Block → Table
table_in (Ok t) = t
table_in (Err NotCarried) = AddressLookup
table_in (Err Unknown) = AddressLookup

-- and its table
abbrev pub table_at : Place → Table
table_at p = table_in (block_at p)

-- "length in data words in bits 23:0 of the second"
abbrev pub length_at : Place → ℕ
length_at p = length_of (get_or p.words 1 0)

-- "Length 0 marks the end"
abbrev pub is_end : Place → Bool
is_end p = eqb (length_at p) 0

-- a block that is not the end
abbrev pub is_block : Place → Bool
is_block p = headed p.words && not (is_end p)

-- the ID is of a table that is carried
abbrev pub carried : Place → Bool
carried p = carried_id (id_at p)

-- a block's data
abbrev pub data_at : Place → List ℕ
data_at p = take (length_at p) (drop 3 p.words)

-- the data's checksum and what follows it
abbrev pub behind : Place → List ℕ
behind p = drop (length_at p) (drop 3 p.words)

-- there is a word
abbrev pub some : List ℕ → Bool
some [] = false
some (w ∷ ws) = true

-- ---- the paper's rows

-- 2: "header checksum wrong"
abbrev pub header_wrong : Place → Bool
header_wrong p = is_block p && not (eqb (get_or p.words 2 0) (checksum (take 2 p.words)))

-- 3: "ID not in table 2 of 001"
abbrev pub unknown : Place → Bool
unknown p = is_block p && unknown_id (id_at p)

-- 4: "ID in table 2, not in the table above"
abbrev pub not_carried : Place → Bool
not_carried p = is_block p && other_id (id_at p)

-- 5: "length not whole entries"
abbrev pub not_whole : Place → Bool
not_whole p = is_block p && (carried p && not (eqb (length_at p % size_of (table_at p)) 0))

-- 6: "the table would pass its most entries"
abbrev pub too_many : Place → Bool
too_many p = is_block p && (carried p && ltb (most_of (table_at p)) (had p.lists (table_at p) + length_at p / size_of (table_at p)))

-- 7: "data checksum wrong"
abbrev pub data_wrong : Place → Bool
data_wrong p = is_block p && (some (behind p) && not (eqb (get_or (behind p) 0 0) (checksum (data_at p))))

-- 8: "global checksum wrong"
abbrev pub global_wrong : Place → Bool
global_wrong p = headed p.words && (is_end p && not (eqb (get_or p.words 2 0) (checksum (p.before ++ take 2 p.words))))

-- 10: "words end before the end block is complete": in the header, or in the data or before its checksum
abbrev pub words_end : Place → Bool
words_end p = not (headed p.words) || (is_block p && not (some (behind p)))

-- ---- their order

-- "8 for an end block; else 2, 3, 4, 5, 6, and 7 after the data"
abbrev pub framing_page : Place → List Clause
framing_page p =
    test 8 (global_wrong p) ∷ test 2 (header_wrong p) ∷ test 3 (unknown p) ∷ test 4 (not_carried p) ∷ test 5 (not_whole p) ∷ test 6 (too_many p)
    ∷ test 7 (data_wrong p) ∷ test 10 (words_end p) ∷ []

-- ---- from place to place

-- the place behind a block, whose words now stand before it and whose entries follow on in its table
abbrev pub onward : Place → Place
onward p =
    place
    (p.before ++ (get_or p.words 0 0 ∷ get_or p.words 1 0 ∷ get_or p.words 2 0 ∷ (data_at p ++ (get_or (behind p) 0 0 ∷ []))))
    (put p.lists (table_at p) (data_at p))
    (drop 1 (behind p))
