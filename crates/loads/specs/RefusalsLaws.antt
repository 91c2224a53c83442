-- An answer and its number: which refusals a number can be, and that those that zero the image are none of those that leave all as found.
use Rattle.std.specs.Prelude.{◌≡◌, refl, true, false, List, ℕ, ◌<◌}
use Rattle.std.proofs.Common.{sym, ◌∙◌, ap, arith, lit<}
use Rattle.std.proofs.lemmas.Bool.{false≢true}
use Rattle.stream.specs.declared.Answer.{Answer}
use Rattle.stream.specs.declared.Answer.TheVariants.{More, Loaded, Refused}
use Rattle.flat_numbers.specs.Flat.{number_of}
use Rattle.loads.specs.Refusals.{OneOf, this, later, RefusedWith, leaves_zero, leave_as_found}

-- a number that leaves the image zero is none of 9, 30, 31 and 32
found_not_zero : {n : ℕ} → OneOf n leave_as_found → leaves_zero n ≡ false
found_not_zero this = refl
found_not_zero (later this) = refl
found_not_zero (later (later this)) = refl
found_not_zero (later (later (later this))) = refl
found_not_zero {n = n} (later (later (later (later o)))) = elim o [ ]

pub zero_not_found : {n : ℕ} → leaves_zero n ≡ true → OneOf n leave_as_found → ⊥
zero_not_found h o = false≢true (sym (found_not_zero o) ∙ h)

-- an answer that refuses with one of these numbers, by its number
pub refused_number : {ns : List ℕ} (answer : Answer) → RefusedWith ns answer → OneOf (number_of answer) ns
refused_number (Refused n) o = o
refused_number {ns = ns} More o = elim o [ ]
refused_number {ns = ns} Loaded o = elim o [ ]

-- "answer 0 means loaded", of an answer that is no refusal with 0
pub zero_loaded : (answer : Answer) → (answer ≡ Refused 0 → ⊥) → number_of answer ≡ 0 → answer ≡ Loaded
zero_loaded More no0 e = absurd (omega arith)
zero_loaded Loaded no0 e = refl
zero_loaded (Refused n) no0 e = absurd (no0 (ap Refused e))

-- a number of these is a refusal's
found_between : {n : ℕ} → OneOf n leave_as_found → (0 < n) × (n < 33)
found_between this = (lit< tt, lit< tt)
found_between (later this) = (lit< tt, lit< tt)
found_between (later (later this)) = (lit< tt, lit< tt)
found_between (later (later (later this))) = (lit< tt, lit< tt)
found_between {n = n} (later (later (later (later o)))) = elim o [ ]

pub number_refused : (answer : Answer) → OneOf (number_of answer) leave_as_found → RefusedWith leave_as_found answer
number_refused More o = let b : 0xFFFFFFFF < 33 = (found_between o).1 in absurd (omega arith)
number_refused Loaded o = let b : 0 < 0 = (found_between o).0 in absurd (omega arith)
number_refused (Refused n) o = o

-- a number that is neither 0 nor "more" is a refusal's
pub refused_behind : (answer : Answer) → (number_of answer ≡ 0 → ⊥) → (number_of answer ≡ 0xFFFFFFFF → ⊥) → answer ≡ Refused (number_of answer)
refused_behind More z m = absurd (m refl)
refused_behind Loaded z m = absurd (z refl)
refused_behind (Refused n) z m = refl
