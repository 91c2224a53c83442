-- An entry of a table that stands in the code as a match, for any linear f. By linearity an entry is the exclusive or of those at the
-- powers of two that its number is made of, which computes in a fraction of the steps that the bits of the entry would take.
use Rattle.std.specs.Prelude.{◌≡◌, refl, List, ℕ, zero, suc, ◌+◌, ◌*◌, ◌/◌, ◌%◌, ◌^◌, ◌≤◌, ◌<◌, T, eqb}
use Rattle.std.proofs.Common.{sym, ap, ap₂, ◌∙◌, mod-lt, mod-eq_of_lt, zero-mul, mul-one, one-mul, mul_comm, mul_assoc, add-mul, lt_of_lt_of_le, pow-suc, one-add, arith, eqb→eq, pow_pos, pow_mono, shl_lt}
use Rattle.std.proofs.Math.Nat.{mod-one}
use Rattle.std.proofs.Math.Arith.{mod-mul}
use Rattle.std.specs.Int.Bits.{bit_xor, xor_shifted}
use Rattle.std.proofs.lemmas.Nat.{xor_comm}
use Rattle.crc.specs.Crc.{bits_out}
use Rattle.crc.proofs.Laws.{bits_out_lt, bits_out_linear, bits_out_shifted}
use Rattle.crc.specs.Arm.{pick, basis, Linear}

-- a number's lowest digit and the rest, each at its place
digits_place : (m p k : ℕ) → bit_xor (k % 2 * 2 ^ p) (k / 2 % 2 ^ m * 2 ^ suc p) ≡ k % 2 ^ suc m * 2 ^ p
digits_place m p k =
    let h : k % 2 * 2 ^ p < 2 ^ suc p = rw one-add at (shl_lt 1 p (mod-lt k (omega arith))) in
    xor_comm (k % 2 * 2 ^ p) (k / 2 % 2 ^ m * 2 ^ suc p) ∙ xor_shifted (k / 2 % 2 ^ m) (suc p) (k % 2 * 2 ^ p) h
    ∙ ap (λ (x : ℕ). k / 2 % 2 ^ m * x + k % 2 * 2 ^ p) (pow-suc 2 p ∙ mul_comm (2 ^ p) 2)
    ∙ ap (λ (x : ℕ). x + k % 2 * 2 ^ p) (sym (mul_assoc (k / 2 % 2 ^ m) 2 (2 ^ p)))
    ∙ sym (add-mul (k / 2 % 2 ^ m * 2) (k % 2) (2 ^ p))
    ∙ ap (λ (x : ℕ). x * 2 ^ p) (sym (ap (λ (x : ℕ). k % x) (pow-suc 2 m) ∙ mod-mul k (pow_pos m) (omega arith)))

module _ {f : ℕ → ℕ} (linear : Linear f) where
  digit : (p x : ℕ) → x < 2 → x * f (2 ^ p) ≡ f (x * 2 ^ p)
  digit p zero h = zero-mul (f (2 ^ p)) ∙ sym linear.none ∙ ap f (sym (zero-mul (2 ^ p)))
  digit p (suc zero) h = one-mul (f (2 ^ p)) ∙ ap f (sym (one-mul (2 ^ p)))
  digit p (suc (suc x)) h = absurd (omega arith)

  pick_basis : (m p k : ℕ) → p + m ≤ 32 → pick (basis f p m) k ≡ f (k % 2 ^ m * 2 ^ p)
  pick_basis zero p k h = rw (mod-one, zero-mul) (sym linear.none)
  pick_basis (suc m) p k h =
      ap₂ bit_xor (digit p (k % 2) (mod-lt k (omega arith))) (pick_basis m (suc p) (k / 2) (omega arith))
      ∙ linear.xor (k % 2 * 2 ^ p) (k / 2 % 2 ^ m * 2 ^ suc p)
      (lt_of_lt_of_le (shl_lt 1 p (mod-lt k (omega arith))) (pow_mono {j = 32} (omega arith)))
      (lt_of_lt_of_le (shl_lt m (suc p) (mod-lt (k / 2) (pow_pos m))) (pow_mono {j = 32} (omega arith)))
      ∙ ap f (digits_place m p k)

  -- the arm at 256 + k, for the byte k. With 256 added a lookup is one load: on the byte by itself the compiler spends one step more
  pub arm : (es : List ℕ) (k v b : ℕ) → es ≡ basis f 0 8 → k < 256 → T (eqb v (pick es k)) → b + 256 ≡ k + 256 → v ≡ f b
  arm es k v b p h t e =
      let same : k ≡ b = omega arith in
      eqb→eq v (pick es k) t ∙ ap (λ (l : List ℕ). pick l k) p ∙ pick_basis 8 0 k (omega arith)
      ∙ ap f (mul-one (k % 256) ∙ mod-eq_of_lt h ∙ same)

-- ---- the register itself is linear

pub bits_out_none : (n : ℕ) → bits_out n 0 ≡ 0
bits_out_none n = ap (bits_out n) (sym (zero-mul (2 ^ n))) ∙ bits_out_shifted n 0

-- what a register is kept as: g of what leaves it. It is linear where g is
pub after_bits : {g : ℕ → ℕ} → Linear g → (n : ℕ) → Linear (λ (b : ℕ). g (bits_out n b))
after_bits {g} linear n =
    record {
      none = ap g (bits_out_none n) ∙ linear.none;
      xor = λ a b ha hb. linear.xor (bits_out n a) (bits_out n b) (bits_out_lt n a ha) (bits_out_lt n b hb) ∙ ap g (sym (bits_out_linear n a b));
    }

pub itself : Linear (λ (x : ℕ). x)
itself = record { none = refl; xor = λ a b ha hb. refl }

pub bits_linear : (n : ℕ) → Linear (bits_out n)
bits_linear = after_bits itself
