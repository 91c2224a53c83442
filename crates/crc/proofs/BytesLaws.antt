-- A word leaves what its bytes leave, and a loop takes them one after the other, from the lowest on: so one function serves every place of a byte.
-- g is what a register is kept as, by itself or with more beside it.
use Rattle.std.specs.Prelude.{◌≡◌, ℕ, ◌+◌, ◌*◌, ◌/◌, ◌%◌, ◌^◌, ◌≤◌, ◌<◌}
use Rattle.std.proofs.Common.{sym, ap, ap₂, ◌∙◌, div-one, mod-lt, mod-eq_of_lt, lt_of_lt_of_le, lt_of_le_of_lt, arith, pow_mono, shl_lt, shr-shr}
use Rattle.std.proofs.Math.Nat.{mod-one, mod-le}
use Rattle.std.specs.Int.Bits.{bit_xor}
use Rattle.crc.specs.Crc.{bits_out}
use Rattle.crc.proofs.Laws.{bits_out_lt, bits_out_linear, bits_out_past, byte_above}
use Rattle.crc.specs.Arm.{Linear}
use Rattle.crc.proofs.ArmLaws.{bits_out_none}
use Rattle.crc.specs.Bytes.{Taken}

module _ {g : ℕ → ℕ} (linear : Linear g) where
  pub taken_none : (n w : ℕ) → Taken g n w 0 w 0
  taken_none n w =
      record {
        rest_is = sym (div-one w);
        left_is = sym (ap (λ (x : ℕ). g (bits_out n x)) (mod-one w) ∙ ap g (bits_out_none n) ∙ linear.none);
      }

  -- the byte at place j, with which m of the n bits are still to leave
  pub taken_more : (n m j w rest left v : ℕ) → j < 4 → w < 2 ^ 32 → n ≡ 8 * j + m → v ≡ g (bits_out m (rest % 256)) → Taken g n w j rest left
      → Taken g n w (j + 1) (rest / 256) (bit_xor left v)
  taken_more n m j w rest left v h hw e p t =
      let same : 8 + 8 * j ≡ 8 * (j + 1) = omega arith in
      let b : ℕ = w / 2 ^ (8 * j) % 256 in
      let hb : b * 2 ^ (8 * j) < 2 ^ 32 = lt_of_lt_of_le (shl_lt 8 (8 * j) (mod-lt (w / 2 ^ (8 * j)) (omega arith))) (pow_mono {j = 32} (omega arith)) in
      record {
        rest_is = ap (λ (x : ℕ). x / 256) t.rest_is ∙ shr-shr w (8 * j) 8 ∙ ap (λ (k : ℕ). w / 2 ^ k) (omega arith);
        left_is =
            ap₂ bit_xor t.left_is
            (p ∙ ap (λ (x : ℕ). g (bits_out m (x % 256))) t.rest_is ∙ ap g (sym (bits_out_past (8 * j) m n b e)))
            ∙ linear.xor (bits_out n (w % 2 ^ (8 * j))) (bits_out n (b * 2 ^ (8 * j)))
            (bits_out_lt n (w % 2 ^ (8 * j)) (lt_of_le_of_lt (mod-le w (2 ^ (8 * j))) hw))
            (bits_out_lt n (b * 2 ^ (8 * j)) hb)
            ∙ ap g (sym (bits_out_linear n (w % 2 ^ (8 * j)) (b * 2 ^ (8 * j)))
            ∙ ap (bits_out n) (byte_above (8 * j) w ∙ ap (λ (k : ℕ). w % 2 ^ k) same));
      }

pub taken_all : {g : ℕ → ℕ} (n w j rest left : ℕ) → w < 2 ^ 32 → 4 ≤ j → Taken g n w j rest left → left ≡ g (bits_out n w)
taken_all {g} n w j rest left hw h t =
    t.left_is ∙ ap (λ (x : ℕ). g (bits_out n x)) (mod-eq_of_lt (lt_of_lt_of_le hw (pow_mono {i = 32} (omega arith))))
