-- What three words of a turn of four leave, which does not depend on the register.
use Rattle.std.specs.Prelude.{ℕ}
use Rattle.std.specs.Int.Bits.{bit_xor}
use Rattle.crc.specs.Crc.{bits_out}

-- what the last three words of a turn leave
unfoldable pub rest : ℕ → ℕ → ℕ → ℕ
rest w x y = bit_xor (bit_xor (bits_out 96 w) (bits_out 64 x)) (bits_out 32 y)
