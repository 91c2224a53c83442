-- The ledger is one row of numbers. Its parts stand one behind the other, and where each starts comes from this one list of how many each has.
use Rattle.std.specs.Prelude.{ℕ, zero, suc, ◌+◌, List, [], ◌∷◌, length, slice_index, slice_set}

-- units left of each partition; each meter's credit, in millionths of a bit, and its time; each port's frames, drops, octets and dropped octets; the last time
abbrev pub parts : List ℕ
parts = 8 ∷ 45 ∷ 45 ∷ 5 ∷ 5 ∷ 5 ∷ 5 ∷ 1 ∷ []

-- a part is its place in the list
abbrev pub units : ℕ
units = 0

abbrev pub credit : ℕ
credit = 1

abbrev pub since : ℕ
since = 2

abbrev pub frames : ℕ
frames = 3

abbrev pub drops : ℕ
drops = 4

abbrev pub octets : ℕ
octets = 5

abbrev pub dropped : ℕ
dropped = 6

abbrev pub last : ℕ
last = 7

-- the cells of the first k of some parts
abbrev before : ℕ → List ℕ → ℕ
before zero ps = 0
before (suc k) [] = 0
before (suc k) (n ∷ ps) = n + before k ps

abbrev pub start : ℕ → ℕ
start k = before k parts

abbrev pub many : ℕ → ℕ
many k = slice_index parts k

abbrev pub cell_count : ℕ
cell_count = start (length parts)

-- the cell at i of part k
abbrev pub cell : List ℕ → ℕ → ℕ → ℕ
cell g k i = slice_index g (start k + i)

-- the row with v there
abbrev pub put : List ℕ → ℕ → ℕ → ℕ → List ℕ
put g k i v = slice_set g (start k + i) v
