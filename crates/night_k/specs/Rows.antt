-- K's ledger at each place of its night, as literal rows of 119 cells.
use Rattle.std.specs.Prelude.{List, [], ◌∷◌, ◌++◌, ℕ, replicate}

-- a full meter, SMAX 65535 × 8,000,000
abbrev pub full : ℕ
full = 524280000000

-- what the night moves: partition 0's units, the credit and the time of meter 40, two ports' frames, drops, octets and dropped octets, the last time
unfoldable pub row : (units credit since frames drops octets dropped frames' drops' octets' dropped' last : ℕ) → List ℕ
row u c s f d o x f' d' o' x' l =
    u ∷ replicate 7 0
    ++ (replicate 40 full ++ (c ∷ replicate 4 full))
    ++ (replicate 40 0 ++ (s ∷ replicate 4 0))
    ++ (f ∷ f' ∷ replicate 3 0)
    ++ (d ∷ d' ∷ replicate 3 0)
    ++ (o ∷ o' ∷ replicate 3 0)
    ++ (x ∷ x' ∷ replicate 3 0)
    ++ (l ∷ [])

-- the fresh ledger
abbrev pub begun : List ℕ
begun = row 1 full 0 0 0 0 0 0 0 0 0 0

-- "frame 1 sent": a unit is taken, and 64 × 8,000,000 is spent
abbrev pub sent_one : List ℕ
sent_one = row 0 523768000000 10 1 0 64 0 0 0 0 0 10

-- "frame 2 drop 11": the meter was full again, and "spent credit stays spent at drops 10 and 11"
abbrev pub dropped_one : List ℕ
dropped_one = row 0 523768000000 20 2 1 128 64 0 0 0 0 20

-- "release 3 ok": "a release gives back one unit"
abbrev pub freed_one : List ℕ
freed_one = row 1 523768000000 20 2 1 128 64 0 0 0 0 20

-- "frame 4 drop 1", of L 63
abbrev pub ended : List ℕ
ended = row 1 523768000000 20 2 1 128 64 1 1 63 63 30
