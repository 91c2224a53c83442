-- `ledger::range::octets_off`: both bounds by one difference that wraps, or by a quotient where the products may pass 64 bits.
use Rattle.std.proofs.Common.{◌≡◌, ℕ, ◌+◌, ◌*◌, ◌/◌, ◌%◌, ◌^◌, ◌<◌, ◌≤◌, Bool, true, false, cond, ltb, sym, refl, ◌∙◌, arith, rules, ltb-false, ltb-true, le-ltb, lt-ltb}
use Rattle.laws.specs.Chain.{hit_lt, pass_lt, together}
use Rattle.ledger.specs.Range.{octets_off}
use Rattle.ledger.proofs.range.octets_off.Goals as goal

module _ (count octets : ℕ) (fits : octets < 2 ^ 64) where
  many : 4499205871636476 < count → ltb (octets / 4) count ≡ octets_off count octets
  unfolding octets_off
  many h = together (octets / 4) count octets (4 * count) (λ l. omega arith) (λ l. omega arith) ∙ first (ltb octets (4 * count)) _ (le-ltb (4100 * count) octets (omega arith))
    where
      first : (t y : Bool) → y ≡ false → t ≡ cond t true y
      first true y e = refl
      first false y e = sym e

  few : (left : ℕ) → count ≤ 4499205871636476 → left < 2 ^ 64 → (left + 4 * count) % 2 ^ 64 ≡ octets → ltb (4096 * count) left ≡ octets_off count octets
  unfolding octets_off
  few left h small e = by (ltb octets (4 * count)) refl
    where
      by : (t : Bool) → t ≡ ltb octets (4 * count) → ltb (4096 * count) left ≡ octets_off count octets
      by true p = let l : octets < 4 * count = ltb-true _ _ (sym p) in lt-ltb (4096 * count) left (omega arith) ∙ hit_lt octets (4 * count) _ _ l
      by false p =
          let l : 4 * count ≤ octets = ltb-false _ _ (sym p) in
          pass_lt octets (4 * count) _ _ _ l (together (4096 * count) left (4100 * count) octets (λ r. omega arith) (λ r. omega arith))

pub returns-then-count-gt-MANY : goal.returns-then-count-gt-MANY
returns-then-count-gt-MANY c = search (rules, many)

pub returns : goal.returns
returns c = search (rules, few)
