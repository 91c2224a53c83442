-- What a course has.
use Rattle.std.specs.Prelude.{◌≡◌, Ok, Err, List, ℕ, ◌<◌}
use Rattle.image.specs.Layout.{count_of}
use Rattle.image.specs.declared.tables.Table.TheVariants.{Policing}
use Rattle.fields.specs.Fields.{smax}
use Rattle.plan.specs.declared.Course.{Course}
use Rattle.plan.specs.Police.{Policed}
use Rattle.plan.specs.Plan.{Planned, Dropped, Goes}

-- where 7 and 8 find entries, both are loaded
abbrev pub Loaded : List ℕ → Policed → Type 0
Loaded image (Err d) = Unit {0}
Loaded image (Ok p) = (p.entry < count_of image Policing) × (p.meter < count_of image Policing)

-- a course's meter is a loaded entry's, with its SMAX; its partition is one of the eight; SMAX and RATE have sixteen bits
pub record Sane (image : List ℕ) (w : Course) : Type 0 where
  pub meter : w.meter < count_of image Policing
  pub own : w.smax ≡ smax image w.meter
  pub smax : w.smax < 65536
  pub rate : w.rate < 65536
  pub partition : w.partition < 8

abbrev pub Follows : List ℕ → Planned → Type 0
Follows image (Dropped n) = Unit {0}
Follows image (Goes w) = Sane image w
