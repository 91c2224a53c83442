-- The load states that six numbers hold: every state that a write leaves is one.
use Rattle.std.specs.Prelude.{◌≡◌, ◌<◌}
use Rattle.image.specs.declared.tables.Table.{Table}
use Rattle.image.specs.declared.tables.Table.TheVariants.{AddressLookup}
use Rattle.stream.specs.declared.Phase.{Phase}
use Rattle.stream.specs.declared.Phase.TheVariants.{Device, Id, Length, Sum, Data, Told}
use Rattle.stream.specs.declared.Load.{Load}
use Rattle.flat_numbers.specs.Flat.{told_in}

-- outside a block the table is the fresh state's
abbrev pub Outside : Phase → Table → Type 0
Outside Device t = t ≡ AddressLookup
Outside Id t = t ≡ AddressLookup
Outside Length t = t ≡ AddressLookup
Outside Sum t = t ≡ AddressLookup
Outside Data t = Unit {0}
Outside (Told n) t = t ≡ AddressLookup

-- what goes into a lower half has 32 bits, as its type says; the table is one that is read; and the told answer is not "more"
pub record Storable (l : Load) : Type 0 where
  pub first : l.first < 4294967296
  pub stream : l.stream < 4294967296
  pub outside : Outside l.phase l.table
  pub answered : told_in 0 l.phase ≡ 0xFFFFFFFF → ⊥
