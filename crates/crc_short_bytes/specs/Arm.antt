-- The entries at the powers of two, of this crate's tables.
use Rattle.std.specs.Prelude.{List, ℕ}
use Rattle.crc.specs.Crc.{bits_out}
use Rattle.crc.specs.Arm as linear
use Rattle.crc_short_bytes.specs.Twice.{twice}

-- the entries at m powers of two, from the p-th on, of the table of a byte that n bits follow
unfoldable pub basis : ℕ → ℕ → ℕ → List ℕ
basis n = linear.basis (λ (b : ℕ). twice (bits_out n b))
