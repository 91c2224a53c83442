-- What a frame that was taken in has.
use Rattle.std.specs.Prelude.{Option, Some, None, List, ℕ, ◌<◌, ◌≤◌, length}
use Rattle.frame.specs.declared.Tag.{Tag}
use Rattle.frame.specs.Intake.{Intake, Dropped, Taken}

-- a frame that is taken in has sixty bytes and a priority of three bits
abbrev pub Whole : List ℕ → Intake → Type 0
Whole frame (Dropped n) = Unit {0}
Whole frame (Taken vlan priority tagged) = (60 ≤ length frame) × (priority < 8)

-- the priority in a tag
abbrev pub Narrow : Option Tag → Type 0
Narrow None = Unit {0}
Narrow (Some t) = t.priority < 8
