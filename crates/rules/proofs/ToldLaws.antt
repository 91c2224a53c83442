-- No rule has the number 0, so what a run is told as says whether one is broken.
use Rattle.std.specs.Prelude.{◌≡◌}
use Rattle.rules.specs.Told.{number_of}
use Rattle.rules.specs.declared.Rule.{Rule}
use Rattle.rules.specs.declared.Rule.TheVariants.{Incomplete, VlanTwice, VlanMissing, SharindxBeyond, SpaceOver, IndexTwice, RetagStray}

pub not_0 : (rule : Rule) → number_of rule ≡ 0 → ⊥
not_0 Incomplete e = cc
not_0 VlanTwice e = cc
not_0 VlanMissing e = cc
not_0 SharindxBeyond e = cc
not_0 SpaceOver e = cc
not_0 IndexTwice e = cc
not_0 RetagStray e = cc
