-- What the code's answer to steps 9 to 11 says: the drop by its number, 0 for none, and what is left.
use Rattle.std.specs.Prelude.{Result}
use Rattle.drops.specs.declared.Dropped.{Dropped}
use Rattle.drops.specs.Numbers.{number_in}
use Rattle.spend.specs.declared.Held.{Held}
use Rattle.spend.specs.Spend.{Spent, spent}

abbrev pub spent_in : {A : Type 0} → Result A Dropped → Held → Spent
spent_in r h = spent (number_in r) h.credit h.since h.units
