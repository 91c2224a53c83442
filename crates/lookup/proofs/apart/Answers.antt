-- `lookup::apart`: two numbers are equal where their bits do not differ.
use Rattle.std.proofs.Common.{◌≡◌, sym, ◌∙◌, ap, Bool, not, ℕ, ◌+◌, ◌*◌, ◌/◌, ◌^◌, ◌<◌, ◌≤◌, arith, bit_xor, bit_and, eqb, eq-eqb, ne_eqb}
use Rattle.std.proofs.Math.Decide.{ℕ_discrete}
use Rattle.std.proofs.lemmas.Nat.{xor_lt, and_le_l, and_le_r}
use Rattle.std.specs.Int.Bits.{xor_self, xor_add_and}
use Rattle.laws.specs.Scan.{flag}
use Rattle.lookup.proofs.apart.Goals as goal

-- numbers that differ in no bit are equal
alike : (a b : ℕ) → bit_xor a b ≡ 0 → a ≡ b
alike a b e =
    let s : bit_xor a b + bit_and a b * 2 ≡ a + b = xor_add_and a b in
    let l : bit_and a b ≤ a = and_le_l a b in
    let r : bit_and a b ≤ b = and_le_r a b in
    twofold (bit_xor a b) (bit_and a b) a b e s l r
  where
    twofold : (x y a b : ℕ) → x ≡ 0 → x + y * 2 ≡ a + b → y ≤ a → y ≤ b → a ≡ b
    twofold x y a b e s l r = omega arith

top : (a b : ℕ) → a < 2 ^ 31 → b < 2 ^ 31 → (bit_xor a b + 2147483647) / 2 ^ 31 ≡ flag (not (eqb a b))
top a b la lb = decide (ℕ_discrete a b)
  where
    none : (x : ℕ) → x ≡ 0 → (x + 2147483647) / 2147483648 ≡ 0
    none x e = omega arith

    some : (x : ℕ) → x < 2147483648 → (x ≡ 0 → ⊥) → (x + 2147483647) / 2147483648 ≡ 1
    some x l ne = omega arith

    decide : Dec (a ≡ b) → (bit_xor a b + 2147483647) / 2 ^ 31 ≡ flag (not (eqb a b))
    decide (yes e) =
        none (bit_xor a b) (ap (λ (x : ℕ). bit_xor x b) e ∙ xor_self b) ∙ sym (ap (λ (t : Bool). flag (not t)) (eq-eqb a b e))
    decide (no ne) =
        some (bit_xor a b) (xor_lt 31 a b la lb) (λ z. ne (alike a b z)) ∙ sym (ap (λ (t : Bool). flag (not t)) (ne_eqb a b ne))

pub overflow_add-result : goal.overflow_add-result
overflow_add-result c = let l : bit_xor c.args.a c.args.b < 2147483648 = xor_lt 31 _ _ c.requires.0 c.requires.1 in omega arith

pub returns : goal.returns
returns c = top _ _ c.requires.0 c.requires.1
