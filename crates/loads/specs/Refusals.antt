-- Which refusal an answer is: some numbers leave the image zero, and some leave everything as found.
use Rattle.std.specs.Prelude.{Bool, true, false, cond, List, [], ◌∷◌, ℕ, ltb, eqb}
use Rattle.stream.specs.declared.Answer.{Answer}
use Rattle.stream.specs.declared.Answer.TheVariants.{More, Loaded, Refused}

-- a number is one of these
pub data OneOf : ℕ → List ℕ → Type 0 where
  this : {n : ℕ} {ns : List ℕ} → OneOf n (n ∷ ns)
  later : {n m : ℕ} {ns : List ℕ} → OneOf n ns → OneOf n (m ∷ ns)

-- an answer refuses with one of these numbers
abbrev pub RefusedWith : List ℕ → Answer → Type 0
RefusedWith ns More = ⊥
RefusedWith ns Loaded = ⊥
RefusedWith ns (Refused n) = OneOf n ns

-- "Refusals 1 to 8, 10 and of a loading rule leave the image zero"
abbrev pub leaves_zero : ℕ → Bool
leaves_zero n = cond (ltb n 9) (ltb 0 n) (cond (eqb n 10) true (cond (ltb n 20) false (cond (ltb n 26) true (eqb n 28))))

-- "9, 30, 31 and 32 leave everything as found"
abbrev pub leave_as_found : List ℕ
leave_as_found = 9 ∷ 30 ∷ 31 ∷ 32 ∷ []
