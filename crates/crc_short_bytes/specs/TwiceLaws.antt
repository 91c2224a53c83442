-- It is linear, as the register is.
use Rattle.std.specs.Prelude.{◌≡◌, ℕ, ◌+◌, ◌*◌, ◌^◌, ◌<◌}
use Rattle.std.proofs.Common.{ap, ◌∙◌, sym}
use Rattle.std.specs.Int.Bits.{bit_xor}
use Rattle.std.proofs.lemmas.Nat.{xor_block}
use Rattle.crc.specs.Crc.{bits_out}
use Rattle.crc.proofs.Laws.{bits_out_linear}
use Rattle.crc_short_bytes.specs.Twice.{twice}

pub twice_linear : (a b : ℕ) → a < 2 ^ 32 → b < 2 ^ 32 → bit_xor (twice a) (twice b) ≡ twice (bit_xor a b)
unfolding twice
twice_linear a b ha hb =
    xor_block 32 (bits_out 64 a) (bits_out 64 b) a b ha hb
    ∙ ap (λ (x : ℕ). x * 2 ^ 32 + bit_xor a b) (sym (bits_out_linear 64 a b))

pub twice_of : (h z x : ℕ) → h ≡ bits_out 64 z → z ≡ x → h * 2 ^ 32 + z ≡ twice x
unfolding twice
twice_of h z x p q = rw (p, q)
