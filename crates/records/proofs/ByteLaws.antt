-- Laws for the loops over bytes.
use Rattle.std.proofs.Common.{List, [], ◌∷◌, ◌++◌, ◌≡◌, not, ◌||◌, Bool, true, ap, ℕ, ◌+◌, ◌-◌, ◌*◌, ◌^◌, ◌<◌, ◌≤◌, eqb, length, get_or, take, drop, ◌∙◌, add-zero, mul_assoc, pow-suc, lt_of_lt_of_le, arith, lit<, length-append, length-drop, length-take, take-suc, get_or-take, get_or-drop, Fits, eq-eqb, ne_eqb}
use Rattle.std.proofs.Math.Path.{refl, sym}
use Rattle.std.proofs.Math.Bool.{false}
use Rattle.std.proofs.Math.Nat.{add-suc, pow-le-pow_right}
use Rattle.std.proofs.Math.Numerals.{add-one}
use Rattle.std.proofs.Math.ListN.{drop_of_length-le}
use Rattle.std.proofs.Math.Seq.{drop-cons}
use Rattle.std.specs.Int.{w64}
use Rattle.std.specs.List.{list_any, zip}
use Rattle.records.specs.Bytes.{big, number_at, differ}
use Rattle.records.specs.Differ.{differ_from}

-- ---- does a byte differ: over the pairs of a byte and the one wanted at its place
pub differ_pairs : (bytes wanted : List ℕ) → list_any (λ (p : ℕ × ℕ). not (eqb p.0 p.1)) (zip bytes wanted) ≡ differ bytes wanted
unfolding differ
differ_pairs [] wanted = refl
differ_pairs (b ∷ bytes) [] = refl
differ_pairs (b ∷ bytes) (w ∷ wanted) = ap (λ (x : Bool). not (eqb b w) || x) (differ_pairs bytes wanted)

-- no byte is there
pub differ_none : (list : List ℕ) (at : ℕ) (wanted : List ℕ) → length list ≤ at → false ≡ differ (drop at list) wanted
unfolding differ
differ_none list at wanted h = rw (drop_of_length-le list h) refl

-- a difference as a loop over i finds it: what is left of the question after i of them, and each way that the loop goes on or ends
module _ (list : List ℕ) (at : ℕ) (wanted : List ℕ) where
  pub differ_start : differ_from list at wanted 0 ≡ differ (drop at list) wanted
  differ_start = rw add-zero refl

  -- one byte more
  step : (i : ℕ) → at + i < length list → i < length wanted
      → differ_from list at wanted i ≡ not (eqb (get_or list (at + i) 0) (get_or wanted i 0)) || differ_from list at wanted (i + 1)
  unfolding differ
  step i h k = rw (drop-cons list (at + i) 0 h, drop-cons wanted i 0 k, add-one i, add-suc at i) refl

  module _ (i : ℕ) (left : differ_from list at wanted i ≡ differ (drop at list) wanted) where
    -- no byte is left in the list
    pub differ_short : length list ≤ at + i → false ≡ differ (drop at list) wanted
    unfolding differ
    differ_short h = rw drop_of_length-le at left

    -- no byte is left that is wanted
    pub differ_all : length wanted ≤ i → false ≡ differ (drop at list) wanted
    unfolding differ
    differ_all h = sym (any (drop (at + i) list)) ∙ (rw (drop_of_length-le wanted h) at left)
      where
        any : (xs : List ℕ) → differ xs [] ≡ false
        any [] = refl
        any (x ∷ xs) = refl

    pub differ_here : at + i < length list → i < length wanted → (get_or list (at + i) 0 ≡ get_or wanted i 0 → ⊥)
        → true ≡ differ (drop at list) wanted
    differ_here h k d = rw (step i h k, ne_eqb (get_or list (at + i) 0) (get_or wanted i 0) d) at left

    pub differ_more : at + i < length list → i < length wanted → get_or list (at + i) 0 ≡ get_or wanted i 0
        → differ_from list at wanted (i + 1) ≡ differ (drop at list) wanted
    differ_more h k e = rw (step i h k, eq-eqb (get_or list (at + i) 0) (get_or wanted i 0) e) at left

-- ---- the number that bytes make

-- one byte more, at the low end
big_more : (xs : List ℕ) (b : ℕ) → big (xs ++ b ∷ []) ≡ big xs * 256 + b
unfolding big
big_more [] b = omega arith
big_more (x ∷ xs) b =
    rw (length-append xs (b ∷ []), add-one (length xs), pow-suc 256 (length xs), ← mul_assoc x (256 ^ length xs) 256, big_more xs b) (omega arith)

pub number_none : (list : List ℕ) (at : ℕ) → 0 ≡ number_at list at 0
unfolding big
number_none list at = refl

-- what a loop over the bytes from `at` up to `at + width` sees: how many there are, and the one behind i others
module _ (list : List ℕ) (at width : ℕ) (h : at + width ≤ length list) where
  pub bytes_in : length (take (at + width - at) (drop at list)) ≡ width
  bytes_in = rw (length-take) (omega (arith, length-drop at list))

  pub byte_in : (i b : ℕ) → i < width → b ≡ get_or (take (at + width - at) (drop at list)) i 0 → b ≡ get_or list (at + i) 0
  byte_in i b k e =
      let here : i < at + width - at = omega arith in
      e ∙ get_or-take (at + width - at) (drop at list) i 0 here ∙ get_or-drop at list i 0

-- n is the number in i of the `width` bytes, and b the next byte
module _ (list : List ℕ) (at i width n b : ℕ) (more : i < width) where
  pub number_more : at + width ≤ length list → n ≡ number_at list at i → b ≡ get_or list (at + i) 0 → n * 256 + b ≡ number_at list at (i + 1)
  number_more h e k =
      rw (add-one i, take-suc (drop at list) i 0 (simp length-drop (omega arith)), get_or-drop at list i 0, e, k)
      (sym (big_more (take i (drop at list)) (get_or list (at + i) 0)))

  pub number_small : n < 256 ^ i → b < 256 → n * 256 + b < 256 ^ (i + 1)
  number_small h k = rw (add-one i, pow-suc 256 i) (omega arith)

  small : width ≤ 8 → n < 256 ^ i → n < 256 ^ 7
  small h k = let l : i ≤ 7 = omega arith in lt_of_lt_of_le k (pow-le-pow_right (lit< tt) l)

  -- 8 bytes are 64 bits
  pub number_fits : width ≤ 8 → n < 256 ^ i → b < 256 → Fits w64 (n * 256 + b)
  number_fits h k l = let s : n < 256 ^ 7 = small h k in record { fits = omega arith }

  pub number_room : width ≤ 8 → n < 256 ^ i → Fits w64 (n * 256)
  number_room h k = let s : n < 256 ^ 7 = small h k in record { fits = omega arith }
