-- `ports::others`: a port's bit is one of the five.
use Rattle.std.proofs.Common.{ℕ, zero, suc, ◌*◌, ◌%◌, ◌^◌, ◌<◌, ◌≤◌, arith, lit≤}
use Rattle.ports.proofs.others.Goals as goal

one_of_five : (port : ℕ) → port < 5 → 1 * 2 ^ port % 18446744073709551616 ≤ 31
one_of_five zero h = lit≤ tt
one_of_five (suc zero) h = lit≤ tt
one_of_five (suc (suc zero)) h = lit≤ tt
one_of_five (suc (suc (suc zero))) h = lit≤ tt
one_of_five (suc (suc (suc (suc zero)))) h = lit≤ tt
one_of_five (suc (suc (suc (suc (suc n))))) h = absurd (omega arith)

pub overflow_sub-result : goal.overflow_sub-result
overflow_sub-result c = one_of_five _ c.requires
