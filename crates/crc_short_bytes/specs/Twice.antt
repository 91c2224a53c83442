-- A number that holds a register, in its low half, and the same register two words later, in its high half.
use Rattle.std.specs.Prelude.{ℕ, ◌+◌, ◌*◌, ◌^◌}
use Rattle.crc.specs.Crc.{bits_out}

unfoldable pub twice : ℕ → ℕ
twice z = bits_out 64 z * 2 ^ 32 + z
