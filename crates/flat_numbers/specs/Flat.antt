-- A load state as six numbers in a row, and back; an answer as a number.
use Rattle.std.specs.Prelude.{◌≡◌, Bool, true, false, cond, not, List, [], ◌∷◌, ℕ, ◌+◌, ◌-◌, ◌*◌, ◌/◌, ◌%◌, ltb, eqb, get_or}
use Rattle.std.proofs.lemmas.List.Edits.{sets}
use Rattle.image.specs.Rows.{index_of, table_count, row_at}
use Rattle.image.specs.declared.tables.Table.{Table}
use Rattle.image.specs.declared.tables.Table.TheVariants.{AddressLookup}
use Rattle.stream.specs.Machine.{fresh}
use Rattle.stream.specs.Answers.{said_of}
use Rattle.stream.specs.declared.Answer.{Answer}
use Rattle.stream.specs.declared.Answer.TheVariants.{More}
use Rattle.stream.specs.declared.Phase.{Phase}
use Rattle.stream.specs.declared.Phase.TheVariants.{Device, Id, Length, Sum, Data, Told}
use Rattle.stream.specs.declared.Load.{Load}

-- ---- an answer

-- "answer 0 means loaded", a refusal its number; "more", which has none in document 01, the highest
abbrev pub number_of : Answer → ℕ
number_of a = (said_of a).number

-- ---- two numbers of 32 bits in one of 64

abbrev pub low : ℕ → ℕ
low n = n % 4294967296

abbrev pub high : ℕ → ℕ
high n = n / 4294967296

abbrev pub joined : ℕ → ℕ → ℕ
joined l h = l + h * 4294967296

-- ---- a state as numbers

abbrev pub phase_number : Phase → ℕ
phase_number Device = 0
phase_number Id = 1
phase_number Length = 2
phase_number Sum = 3
phase_number Data = 4
phase_number (Told n) = 5

-- the answer that was told; where none was, the number that stood there, which nothing reads
abbrev pub told_in : ℕ → Phase → ℕ
told_in spare Device = spare
told_in spare Id = spare
told_in spare Length = spare
told_in spare Sum = spare
told_in spare Data = spare
told_in spare (Told n) = n

-- the number that stood there where the phase is the one before, 0 where it has moved
abbrev pub kept : ℕ → ℕ → ℕ → ℕ
kept before spare phase = cond (eqb before phase) spare 0

-- the place of a block's table; outside a block, a number that nothing reads
abbrev pub place_in : ℕ → Phase → Table → ℕ
place_in spare Device t = spare
place_in spare Id t = spare
place_in spare Length t = spare
place_in spare Sum t = spare
place_in spare Data t = index_of t
place_in spare (Told n) t = spare

-- the six numbers of a state, in the place of the numbers c; the upper half of the second, which is no part of it, is kept
abbrev pub numbers_of : List ℕ → Load → List ℕ
numbers_of c l =
    joined (phase_number l.phase) (told_in (high (get_or c 0 0)) l.phase)
    ∷ joined (place_in (kept (low (get_or c 0 0)) (low (get_or c 1 0)) (phase_number l.phase)) l.phase l.table) (high (get_or c 1 0))
    ∷ l.placed
    ∷ l.due
    ∷ joined l.first l.second
    ∷ joined l.stream l.block
    ∷ []

abbrev pub stored_in : List ℕ → Load → List ℕ
stored_in c l = sets c 0 (numbers_of c l)

-- ---- and back

-- the phases by their numbers; past them an answer has been told
abbrev pub phases : List Phase
phases = Device ∷ Id ∷ Length ∷ Sum ∷ Data ∷ []

abbrev pub phase_of : ℕ → ℕ → Phase
phase_of number told = get_or phases number (Told told)

abbrev pub table_of : ℕ → Table
table_of number = (row_at number).table

-- the table is read in the data phase only: in any other it is the fresh state's, whatever number stands there
abbrev pub table_in : Phase → ℕ → Table
table_in Device number = AddressLookup
table_in Id number = AddressLookup
table_in Length number = AddressLookup
table_in Sum number = AddressLookup
table_in Data number = table_of number
table_in (Told n) number = AddressLookup

-- a phase, a told answer and a table's place are a load state's: the phase is one of six; in the last the answer is not "more", which is none;
-- in the data phase the place is one of the rows
abbrev pub is_state : ℕ → ℕ → ℕ → Bool
is_state phase told table =
    cond (ltb 5 phase) false (cond (eqb phase 5) (not (eqb told (number_of More))) (cond (eqb phase 4) (ltb table table_count) true))

-- six numbers are a load state's; every other number stands as it is
abbrev pub is_load : List ℕ → Bool
is_load c = is_state (low (get_or c 0 0)) (high (get_or c 0 0)) (low (get_or c 1 0))

abbrev pub load_in : List ℕ → Load
load_in c =
    record {
      phase = phase_of (low (get_or c 0 0)) (high (get_or c 0 0));
      table = table_in (phase_of (low (get_or c 0 0)) (high (get_or c 0 0))) (low (get_or c 1 0));
      placed = get_or c 2 0;
      due = get_or c 3 0;
      first = low (get_or c 4 0);
      second = high (get_or c 4 0);
      stream = low (get_or c 5 0);
      block = high (get_or c 5 0);
    }

-- ---- inside a block

-- the numbers after n data words: the first two stay, and the last has the two registers
abbrev pub moved : List ℕ → ℕ → ℕ → List ℕ
moved c n registers = sets c 2 ((get_or c 2 0 + n) ∷ (get_or c 3 0 - n) ∷ 0 ∷ registers ∷ [])

-- ---- a fresh load: all six numbers are zero, and they are the state before a first write
pub record FreshLoad (after : List ℕ) : Type 0 where
  pub numbers : after ≡ 0 ∷ 0 ∷ 0 ∷ 0 ∷ 0 ∷ 0 ∷ []
  pub state : load_in after ≡ fresh
