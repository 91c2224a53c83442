-- The numbers of what a write is refused with before one of its words is looked at.
use Rattle.std.specs.Prelude.{ℕ, Result, Ok, Err}
use Rattle.placing.specs.declared.refusal.Refusal.{Refusal}
use Rattle.placing.specs.declared.refusal.Refusal.TheVariants.{TooShort, Damaged, Outside}

abbrev pub number_of : Refusal → ℕ
number_of TooShort = 31
number_of Damaged = 30
number_of Outside = 32

-- a refusal's number, 0 for none
abbrev pub number_in : Result (Unit {0}) Refusal → ℕ
number_in (Ok u) = 0
number_in (Err r) = number_of r
