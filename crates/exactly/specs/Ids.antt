-- A block's ID by the two lists that numbers 3 and 4 name, on the ID alone, and what it is to be named so.
use Rattle.std.specs.Prelude.{◌≡◌, Bool, true, false, not, ◌&&◌, List, [], ◌∷◌, ℕ, Ok, Err}
use Rattle.image.specs.Blocks.{Block, table2, listed, block_of}
use Rattle.image.specs.declared.tables.NoTable.TheVariants.{NotCarried, Unknown}

-- "the table above": document 01's IDs, and document 02's behind them: "4 no longer covers ID 12"
abbrev pub carried_ids : List ℕ
carried_ids = 0x05 ∷ 0x06 ∷ 0x07 ∷ 0x08 ∷ 0x09 ∷ 0x0D ∷ 0x0E ∷ 0x11 ∷ 0x4E ∷ 0x12 ∷ []

-- an ID of these
abbrev pub carried_id : ℕ → Bool
carried_id id = listed id carried_ids

-- "ID not in table 2 of 001": none of the manual's twenty
abbrev pub unknown_id : ℕ → Bool
unknown_id id = not (listed id table2)

-- "ID in table 2, not in the table above"
abbrev pub other_id : ℕ → Bool
other_id id = listed id table2 && not (carried_id id)

-- the three cases of what an ID names: none of table 2's
abbrev pub is_unknown : Block → Bool
is_unknown (Ok t) = false
is_unknown (Err NotCarried) = false
is_unknown (Err Unknown) = true

-- one of table 2's that is not carried
abbrev pub is_other : Block → Bool
is_other (Ok t) = false
is_other (Err NotCarried) = true
is_other (Err Unknown) = false

-- one that is carried
abbrev pub is_carried : Block → Bool
is_carried (Ok t) = true
is_carried (Err NotCarried) = false
is_carried (Err Unknown) = false

-- what an ID names says these three, for any number as an ID
pub record Names (id : ℕ) : Type 0 where
  pub unknown : is_unknown (block_of id) ≡ unknown_id id
  pub other : is_other (block_of id) ≡ other_id id
  pub carried : is_carried (block_of id) ≡ carried_id id
