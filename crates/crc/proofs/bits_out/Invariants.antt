-- `crc::bits_out` meets its contract. The loop's invariant: what the bits still to leave make of x is what all of them make of the register.
use Rattle.std.proofs.Common.{◌≡◌, ◌-◌}
use Rattle.crc.specs.Crc.{bits_out}
use Rattle.crc.proofs.bits_out.Given as goal

abbrev pub invariant-loop : goal.invariant-loop
invariant-loop l = bits_out (l.k - l.counter) l.x ≡ bits_out l.k l.r
