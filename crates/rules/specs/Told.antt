-- The rules of the code by their numbers.
use Rattle.std.specs.Prelude.{ℕ, Result, Ok, Err}
use Rattle.rules.specs.declared.Rule.{Rule}
use Rattle.rules.specs.declared.Rule.TheVariants.{Incomplete, VlanTwice, VlanMissing, SharindxBeyond, SpaceOver, IndexTwice, RetagStray}

abbrev pub number_of : Rule → ℕ
number_of Incomplete = 20
number_of VlanTwice = 21
number_of VlanMissing = 22
number_of SharindxBeyond = 23
number_of SpaceOver = 24
number_of IndexTwice = 25
number_of RetagStray = 28

-- what a run of the rules is told as: the number of the rule that is broken, 0 where none is
abbrev pub told_of : Result (Unit {0}) Rule → ℕ
told_of (Ok none) = 0
told_of (Err rule) = number_of rule
