-- The answer to a fresh ledger and to a release, and what it says in document 01's terms.
use Rattle.std.specs.Prelude.{ℕ, Result, Ok, Err, cond, [], ◌==◌}
use Rattle.laws.specs.Says.{Says, says}

-- done, or the number of what refuses the call
abbrev pub Answer : Type 0
Answer = Result (Unit {0}) ℕ

-- the refusal's number; 0 where the call was done
abbrev pub said_of : Answer → Says
said_of (Err n) = says 0 n []
said_of (Ok done) = says 1 0 []

abbrev pub number_of : Answer → ℕ
number_of a = (said_of a).number

-- the case that says a number
abbrev pub answer_of : ℕ → Answer
answer_of n = cond (n == 0) (Ok tt) (Err n)
