-- What a frame that steps 1 to 6 let in has.
use Rattle.std.specs.Prelude.{Option, Some, None, List, ℕ, ◌<◌, ◌≤◌, length}
use Rattle.image.specs.Layout.{count_of}
use Rattle.image.specs.declared.tables.Table.TheVariants.{VlanLookup}
use Rattle.plan.specs.Enter.{Entered, Dropped, In}

-- where 4 finds an entry, it is one of 07's
abbrev pub Inside : List ℕ → Option ℕ → Type 0
Inside image None = Unit {0}
Inside image (Some place) = place < count_of image VlanLookup

-- a frame that is let in: sixty bytes, a place of 07, a priority of three bits
pub record LetIn (image frame : List ℕ) (place priority : ℕ) : Type 0 where
  pub long : 60 ≤ length frame
  pub there : place < count_of image VlanLookup
  pub narrow : priority < 8

abbrev pub Through : List ℕ → List ℕ → Entered → Type 0
Through image frame (Dropped n) = Unit {0}
Through image frame (In vlan place priority) = LetIn image frame place priority
