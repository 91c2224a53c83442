-- What refuses a call before its own numbers are looked at: 31, 30 and 39 (document 01, "One frame, step by step"); 39 clause by clause, over all
-- partitions, meters and tiles.
use Rattle.std.specs.Prelude.{ℕ, ◌*◌, Bool, true, cond, ltb, List, ◌==◌, nat_lt}
use Rattle.laws.specs.Scan.{some_below}
use Rattle.image.specs.Layout.{image_in, count_of}
use Rattle.fields.specs.Fields.{part_spc, smax}
use Rattle.image.specs.Loaded.{too_short, not_loaded}
use Rattle.image.specs.declared.tables.Table.TheVariants.{Policing}
use Rattle.ledger.specs.Row.{units, credit, since, frames, drops, octets, dropped, last, many, cell}

-- the latest time, 2^48 - 1 µs
abbrev pub latest : ℕ
latest = 281474976710655

-- "units left above PART_SPC"
abbrev pub units_over : List ℕ → List ℕ → Bool
units_over image g = some_below (many units) (λ j. ltb (part_spc image j) (cell g units j))

-- what a meter holds when it is full, in millionths of a bit: SMAX × 8,000,000, "0 for an entry not loaded"
abbrev pub full_of : List ℕ → ℕ → ℕ
full_of image k = cond (nat_lt k (count_of image Policing)) (smax image k * 8000000) 0

-- "credit above SMAX × 8,000,000 or above 0 for an entry not loaded"
abbrev pub credit_over : List ℕ → List ℕ → Bool
credit_over image g = some_below (many credit) (λ k. ltb (full_of image k) (cell g credit k))

-- "octets not from 4 × frames to 4,100 × frames", and so for drops
unfoldable pub octets_off : ℕ → ℕ → Bool
octets_off count octets = cond (nat_lt octets (4 * count)) true (nat_lt (4100 * count) octets)

-- a tile: "drops above frames", its octets, its "dropped octets not from 4 × drops to 4,100 × drops or above octets"
abbrev pub counts_off : ℕ → ℕ → ℕ → ℕ → Bool
counts_off frames drops octets dropped =
    cond (nat_lt frames drops) true (cond (octets_off frames octets) true (cond (octets_off drops dropped) true (nat_lt octets dropped)))

abbrev pub tiles_off : List ℕ → Bool
tiles_off g = some_below (many frames) (λ p. counts_off (cell g frames p) (cell g drops p) (cell g octets p) (cell g dropped p))

-- "a meter's time above the last time"
abbrev pub times_over : List ℕ → Bool
times_over g = some_below (many since) (λ k. ltb (cell g last 0) (cell g since k))

-- 39
unfoldable pub out_of_range : List ℕ → List ℕ → Bool
out_of_range image g =
    cond (units_over image g) true (cond (credit_over image g) true (cond (tiles_off g) true (cond (times_over g) true (nat_lt latest (cell g last 0)))))

-- 31, 30; 0 where neither refuses
unfoldable pub unloaded : List ℕ → ℕ
unloaded buffer = cond (too_short buffer) 31 (cond (not_loaded (image_in buffer)) 30 0)

-- what refuses a frame and a release before anything else, in this order: 31, 30, 39; 0 where nothing does
unfoldable pub standing : List ℕ → List ℕ → ℕ
standing buffer g = cond (unloaded buffer == 0) (cond (out_of_range (image_in buffer) g) 39 0) (unloaded buffer)
