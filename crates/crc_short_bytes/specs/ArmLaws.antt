-- An entry of this crate's tables, which stand in the code as a match: crc's law of an arm, for a register together with itself two words later.
use Rattle.std.specs.Prelude.{◌≡◌, List, ℕ, ◌+◌, ◌<◌, T, eqb}
use Rattle.crc.specs.Crc.{bits_out}
use Rattle.crc.specs.Arm.{Linear, pick}
use Rattle.crc.proofs.ArmLaws.{bits_out_none, after_bits}
use Rattle.crc.proofs.ArmLaws as linear
use Rattle.crc_short_bytes.specs.Twice.{twice}
use Rattle.crc_short_bytes.specs.TwiceLaws.{twice_linear}
use Rattle.crc_short_bytes.specs.Arm.{basis}

pub halves : Linear twice
unfolding twice
halves = record { none = rw (bits_out_none 64); xor = twice_linear }

-- the arm at 256 + k, for the byte k
pub arm : (n : ℕ) (es : List ℕ) (k v b : ℕ) → es ≡ basis n 0 8 → k < 256 → T (eqb v (pick es k)) → b + 256 ≡ k + 256 → v ≡ twice (bits_out n b)
unfolding basis
arm n = linear.arm (after_bits halves n)
