-- What 30 asks of a begun load.
use Rattle.std.specs.Prelude.{List, ℕ, ◌+◌, ◌*◌, ◌≤◌, length}
use Rattle.image.specs.Rows.{size_of, most_of}
use Rattle.image.specs.Layout.{image_words, image_in}
use Rattle.image.specs.Sound.{Within}
use Rattle.stream.specs.Machine.{Machine, had_in}
use Rattle.stream.specs.declared.Phase.{Phase}
use Rattle.stream.specs.declared.Phase.TheVariants.{Device, Id, Length, Sum, Data, Told}
use Rattle.stream.specs.declared.Load.{Load}

-- inside a block: what is placed and due fits the table's room
abbrev pub Roomy : Phase → Load → List ℕ → Type 0
Roomy Device l buffer = Unit {0}
Roomy Id l buffer = Unit {0}
Roomy Length l buffer = Unit {0}
Roomy Sum l buffer = Unit {0}
Roomy Data l buffer =
    had_in buffer l.table * size_of l.table + l.placed + l.due ≤ most_of l.table * size_of l.table
Roomy (Told n) l buffer = Unit {0}

-- the buffer has an image, every count is within its limit, and what is due has room
pub record Fine (m : Machine) : Type 0 where
  pub whole : image_words ≤ length m.buffer
  pub within : Within (image_in m.buffer)
  pub roomy : Roomy m.load.phase m.load m.buffer
