-- What a row that 39 does not refuse has, and a buffer and a row that 31, 30 and 39 do not.
use Rattle.std.specs.Prelude.{ℕ, ◌*◌, ◌<◌, ◌≤◌, List}
use Rattle.image.specs.Layout.{image_in}
use Rattle.fields.specs.Fields.{part_spc}
use Rattle.image.specs.Sound.{Sound}
use Rattle.ledger.specs.Row.{units, credit, since, frames, drops, octets, dropped, last, many, cell}
use Rattle.ledger.specs.Range.{latest, full_of}

-- ---- tests

-- a tile's counts that 39 does not refuse
pub record Counted (frames drops octets dropped : ℕ) : Type 0 where
  pub fewer : drops ≤ frames
  pub least : 4 * frames ≤ octets
  pub most : octets ≤ 4100 * frames
  pub dropped_least : 4 * drops ≤ dropped
  pub dropped_most : dropped ≤ 4100 * drops
  pub within : dropped ≤ octets

-- a ledger that 39 does not refuse
pub record InRange (image g : List ℕ) : Type 0 where
  pub spaced : (j : ℕ) → j < many units → cell g units j ≤ part_spc image j
  pub metered : (k : ℕ) → k < many credit → cell g credit k ≤ full_of image k
  pub tiled : (p : ℕ) → p < many frames → Counted (cell g frames p) (cell g drops p) (cell g octets p) (cell g dropped p)
  pub timed : (k : ℕ) → k < many since → cell g since k ≤ cell g last 0
  pub early : cell g last 0 ≤ latest

-- what a call that 31, 30 and 39 do not refuse has
pub record Stands (buffer g : List ℕ) : Type 0 where
  pub image : Sound buffer
  pub ledger : InRange (image_in buffer) g
