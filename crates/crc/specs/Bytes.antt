-- How far a loop over a word's bytes has come.
use Rattle.std.specs.Prelude.{◌≡◌, ℕ, ◌*◌, ◌/◌, ◌%◌, ◌^◌}
use Rattle.crc.specs.Crc.{bits_out}

-- after j bytes of w: what is left of the word, and what has left the register with n bits
pub record Taken (g : ℕ → ℕ) (n w j rest left : ℕ) : Type 0 where
  pub rest_is : rest ≡ w / 2 ^ (8 * j)
  pub left_is : left ≡ g (bits_out n (w % 2 ^ (8 * j)))
