-- What a word leaves by the tables of two words: a number whose low half is what the word leaves, and whose high half the same two words later.
-- So the tables of two words serve the four words of a turn (crc's Four).
use Rattle.std.specs.Prelude.{◌≡◌, refl, ℕ, zero, suc, ◌+◌, ◌/◌, ◌%◌, ◌^◌, ◌≤◌, ◌<◌}
use Rattle.std.proofs.Common.{sym, ap₂, ◌∙◌, arith}
use Rattle.std.specs.Int.Bits.{bit_xor}
use Rattle.std.proofs.lemmas.Nat.{xor_comm}
use Rattle.std.proofs.Math.Pow.{high, low}
use Rattle.crc.specs.Crc.{bits_out}
use Rattle.crc.specs.Xor.{xor_assoc}
use Rattle.crc.proofs.Laws.{bits_out_lt, bits_out_add}
use Rattle.crc.specs.Four.{rest}
use Rattle.crc_short_bytes.specs.Twice.{twice}
use Rattle.crc_short.specs.Turn.{reach}

-- ---- the two halves of a number

pub low_bits : (k w u z : ℕ) → w < 2 ^ 32 → u ≡ twice (bits_out k w) → z ≡ u % 2 ^ 32 → z ≡ bits_out k w
unfolding twice
low_bits k w u z h p q = q ∙ rw p (low (bits_out 64 (bits_out k w)) 32 (bits_out_lt k w h))

pub high_bits : (k w u z : ℕ) → w < 2 ^ 32 → u ≡ twice (bits_out k w) → z ≡ u / 2 ^ 32 → z ≡ bits_out (k + 64) w
unfolding twice
high_bits k w u z h p q = q ∙ rw (p, bits_out_add k 64 w) (high (bits_out 64 (bits_out k w)) 32 (bits_out_lt k w h))

-- ---- what the registers share in a turn

pub shared_rest : (w x y a b c : ℕ) → a ≡ bits_out 64 x → b ≡ bits_out 32 y → c ≡ bits_out 96 w → bit_xor (bit_xor a b) c ≡ rest w x y
unfolding rest
shared_rest w x y a b c p q r =
    xor_comm (bit_xor a b) c ∙ sym (xor_assoc c a b) ∙ ap₂ bit_xor (ap₂ bit_xor r p) q

pub reach_far : (k : ℕ) → k < 3 → reach k ≡ 64
unfolding reach
reach_far zero h = refl
reach_far (suc zero) h = refl
reach_far (suc (suc zero)) h = refl
reach_far (suc (suc (suc k))) h = absurd (omega arith)

pub reach_near : (k : ℕ) → 3 ≤ k → reach k ≡ 32
unfolding reach
reach_near zero h = absurd (omega arith)
reach_near (suc zero) h = absurd (omega arith)
reach_near (suc (suc zero)) h = absurd (omega arith)
reach_near (suc (suc (suc k))) h = refl
