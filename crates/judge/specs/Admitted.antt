-- What a frame that is not refused has.
use Rattle.std.specs.Prelude.{List, ℕ, ◌<◌, ◌≤◌, length}
use Rattle.image.specs.Layout.{image_in}
use Rattle.image.specs.Sound.{Sound}
use Rattle.ledger.specs.Row.{frames, last, many, cell}
use Rattle.ledger.specs.Range.{latest}
use Rattle.ledger.specs.Stands.{InRange}
use Rattle.settle.specs.Countable.{Countable}

-- ---- what is admitted

pub record Admitted (buffer g : List ℕ) (port time : ℕ) (frame : List ℕ) : Type 0 where
  pub image : Sound buffer
  pub ledger : InRange (image_in buffer) g
  pub inside : port < many frames
  pub later : cell g last 0 ≤ time
  pub early : time ≤ latest
  pub short : length frame ≤ 4096
  pub countable : Countable g port
