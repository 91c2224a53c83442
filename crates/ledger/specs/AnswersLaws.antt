-- An answer made of a number says this number, and what an answer says tells every answer apart.
use Rattle.std.specs.Prelude.{◌≡◌, ℕ, Bool, true, false, cond, ◌==◌, refl, Ok, Err}
use Rattle.std.proofs.Common.{sym, ap, eqb-true}
use Rattle.laws.specs.Says.{Says}
use Rattle.laws.specs.SaysLaws.{other_kind}
use Rattle.ledger.specs.Answers.{Answer, said_of, number_of, answer_of}

pub numbered : (n : ℕ) → number_of (answer_of n) ≡ n
numbered n = by (n == 0) refl
  where
    by : (t : Bool) → t ≡ (n == 0) → number_of (cond t (Ok tt) (Err n)) ≡ n
    by true e = sym (eqb-true n 0 (sym e))
    by false e = refl

pub apart : (a b : Answer) → said_of a ≡ said_of b → a ≡ b
apart (Err m) (Err n) e = ap (λ (s : Says). Err s.number) e
apart (Ok x) (Ok y) e = refl
apart (Err m) (Ok x) e = absurd (other_kind e refl)
apart (Ok x) (Err n) e = absurd (other_kind e refl)
