-- A drop's number tells it from the others, and from none.
use Rattle.std.specs.Prelude.{◌≡◌, refl, cond, ℕ, eqb}
use Rattle.std.proofs.Common.{sym, ◌∙◌, ap}
use Rattle.std.proofs.lemmas.Bool.{eqb-false}
use Rattle.drops.specs.declared.Dropped.{Dropped}
use Rattle.drops.specs.declared.Dropped.TheVariants.{TooShort, NoIngress, Untagged, NoVlan, NotMember, Barred, NotPoliced, TooLong, NoCredit, NoPort, NoUnit}
use Rattle.drops.specs.Numbers.{number_of}

-- 0 is no drop's number
pub not_none : (d : Dropped) → number_of d ≡ 0 → ⊥
not_none TooShort e = eqb-false 1 0 refl e
not_none NoIngress e = eqb-false 2 0 refl e
not_none Untagged e = eqb-false 3 0 refl e
not_none NoVlan e = eqb-false 4 0 refl e
not_none NotMember e = eqb-false 5 0 refl e
not_none Barred e = eqb-false 6 0 refl e
not_none NotPoliced e = eqb-false 7 0 refl e
not_none TooLong e = eqb-false 8 0 refl e
not_none NoCredit e = eqb-false 9 0 refl e
not_none NoPort e = eqb-false 10 0 refl e
not_none NoUnit e = eqb-false 11 0 refl e

-- the drop of a number
abbrev drop_of : ℕ → Dropped
drop_of n = cond (eqb n 1) TooShort (cond (eqb n 2) NoIngress (cond (eqb n 3) Untagged (cond (eqb n 4) NoVlan (cond (eqb n 5) NotMember (cond (eqb n 6) Barred (cond (eqb n 7) NotPoliced (cond (eqb n 8) TooLong (cond (eqb n 9) NoCredit (cond (eqb n 10) NoPort NoUnit)))))))))

back : (d : Dropped) → drop_of (number_of d) ≡ d
back TooShort = refl
back NoIngress = refl
back Untagged = refl
back NoVlan = refl
back NotMember = refl
back Barred = refl
back NotPoliced = refl
back TooLong = refl
back NoCredit = refl
back NoPort = refl
back NoUnit = refl

-- two drops have two numbers
pub apart : (a b : Dropped) → number_of a ≡ number_of b → a ≡ b
apart a b e = sym (back a) ∙ ap drop_of e ∙ back b
