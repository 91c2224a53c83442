-- A write of data of one block alone, on the numbers of the load state: where its words go, and what it leaves.
use Rattle.std.specs.Prelude.{◌≡◌, cond, not, Option, None, List, ℕ, ◌+◌, ◌^◌, ◌<◌, ◌≤◌, leb, eqb, length, get_or}
use Rattle.std.proofs.lemmas.List.Edits.{sets}
use Rattle.crc.specs.Crc.{words_in}
use Rattle.image.specs.Loaded.{too_short}
use Rattle.image.specs.Rows.{table_count}
use Rattle.one_block.specs.Data.{data_place}
use Rattle.flat_numbers.specs.Flat.{low, joined, table_of, load_in, moved}

-- where the n words of a write go; nowhere where they are not of one block alone, or where a test refuses the write
unfoldable pub flat_place : List ℕ → List ℕ → ℕ → Option ℕ
flat_place c buffer n =
    cond (too_short buffer) None
    (cond (not (eqb (low (get_or c 0 0)) 4)) None
    (cond (leb table_count (low (get_or c 1 0))) None (data_place buffer (table_of (low (get_or c 1 0))) (get_or c 2 0) (get_or c 3 0) n)))

-- there is room for data words at a place: in the buffer, among the words due, and in the number of the words placed
pub record Fits (numbers buffer words : List ℕ) (place : ℕ) : Type 0 where
  pub inside : place + length words ≤ length buffer
  pub due : length words ≤ get_or numbers 3 0
  pub placed : get_or numbers 2 0 + length words < 2 ^ 64

-- data words at their place: "more", the state moved over them, and the words stored
pub record Takes (numbers buffer words : List ℕ) (place r : ℕ) (after kept : List ℕ) : Type 0 where
  pub more : r ≡ 0xFFFFFFFF
  pub moves : after ≡ moved numbers (length words) (joined (words_in (load_in numbers).stream words) (words_in (load_in numbers).block words))
  pub stored : kept ≡ sets buffer place words
