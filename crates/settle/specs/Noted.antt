-- What pins what a verdict notes: it notes the time, and noting it touches neither meters nor units.
use Rattle.std.specs.Prelude.{◌≡◌, Bool, List, ℕ, ◌+◌, ◌<◌, length}
use Rattle.std.proofs.Math.Dec.{lit≤}
use Rattle.ledger.specs.Row.{units, credit, since, frames, octets, last, many, cell_count, cell}
use Rattle.ledger.proofs.Laws.{cells}
use Rattle.spend.specs.Spend.{counted_of}
use Rattle.settle.specs.Note.{noted}

-- "every verdict sets the last time and the tile"
module _ (g : List ℕ) (port time l : ℕ) (drop : Bool) (all : length g ≡ cell_count) (inside : port < many frames) where
  pub time_noted : cell (noted g port time l drop) last 0 ≡ time
  unfolding noted
  time_noted = let only : 0 < many last = lit≤ tt in simp (cells, all)

  pub frame_counted : cell (noted g port time l drop) frames port ≡ cell g frames port + 1
  unfolding noted counted_of
  frame_counted = let only : 0 < many last = lit≤ tt in simp (cells, all)

  pub octets_counted : cell (noted g port time l drop) octets port ≡ cell g octets port + l
  unfolding noted counted_of
  octets_counted = let only : 0 < many last = lit≤ tt in simp (cells, all)

-- what notes a verdict leaves meters and units as they are
module _ (g : List ℕ) (port time l : ℕ) (drop : Bool) (inside : port < many frames) where
  pub credit_kept : (m : ℕ) → m < many credit → cell (noted g port time l drop) credit m ≡ cell g credit m
  unfolding noted
  credit_kept m h = let only : 0 < many last = lit≤ tt in simp cells

  pub since_kept : (m : ℕ) → m < many since → cell (noted g port time l drop) since m ≡ cell g since m
  unfolding noted
  since_kept m h = let only : 0 < many last = lit≤ tt in simp cells

  pub units_kept : (j : ℕ) → j < many units → cell (noted g port time l drop) units j ≡ cell g units j
  unfolding noted
  units_kept j h = let only : 0 < many last = lit≤ tt in simp cells
