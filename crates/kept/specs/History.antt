-- A history: frames and releases, one after the other, from a row on.
use Rattle.std.specs.Prelude.{List, [], ◌∷◌, ℕ}
use Rattle.row.specs.Release.{released}
use Rattle.judge.specs.Judge.{call_of}

-- a frame with its port, its time and its bytes, or a release of a partition
pub data Event : Type 0 where
  frame : ℕ → ℕ → List ℕ → Event
  release : ℕ → Event

-- the row after one event
abbrev pub step : List ℕ → List ℕ → Event → List ℕ
step buffer g (frame port time bytes) = (call_of buffer g port time bytes).row
step buffer g (release partition) = released buffer g partition

-- and after all of them
abbrev pub after : List ℕ → List ℕ → List Event → List ℕ
after buffer g [] = g
after buffer g (e ∷ es) = after buffer (step buffer g e) es
