-- The drops' numbers, 1 to 11 (document 01, "One frame, step by step").
use Rattle.std.specs.Prelude.{ℕ, Result, Ok, Err}
use Rattle.drops.specs.declared.Dropped.{Dropped}
use Rattle.drops.specs.declared.Dropped.TheVariants.{TooShort, NoIngress, Untagged, NoVlan, NotMember, Barred, NotPoliced, TooLong, NoCredit, NoPort, NoUnit}

abbrev pub number_of : Dropped → ℕ
number_of TooShort = 1
number_of NoIngress = 2
number_of Untagged = 3
number_of NoVlan = 4
number_of NotMember = 5
number_of Barred = 6
number_of NotPoliced = 7
number_of TooLong = 8
number_of NoCredit = 9
number_of NoPort = 10
number_of NoUnit = 11

-- the number of the step that drops, and 0 where none does
abbrev pub number_in : {A : Type 0} → Result A Dropped → ℕ
number_in (Ok x) = 0
number_in (Err d) = number_of d
