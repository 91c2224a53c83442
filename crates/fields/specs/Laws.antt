-- Laws of fields: a field read from those words.
use Rattle.std.specs.Prelude.{◌≡◌, refl, List, [], ◌∷◌, ℕ, zero, suc, ◌+◌, ◌-◌, ◌*◌, ◌/◌, ◌%◌, ◌^◌, ◌<◌, ◌≤◌, get_or, take, drop}
use Rattle.std.proofs.Common.{sym, ◌∙◌, ap, subst, zero-add, suc-add, le_of_suc-le-suc, not-suc-le-zero, mul_assoc, one-mul, arith, pow-add, pow_pos, shl_exact, get_or-drop, get_or-take, take-take}
use Rattle.std.proofs.Math.Nat.{add-mul-div_left, add-mul-mod_self_left, div-div-eq-div-mul, div-eq_of_lt, zero-div, div-add-mod}
use Rattle.image.specs.Layout.{image_words, image_in}
use Rattle.fields.specs.Fields.{number, bits}
use Rattle.fields.specs.Words.{Words}

-- the low b + w bits of x + 2^k y are those of x, where b + w is at most k
pub low_bits : (x y k b w : ℕ) → b + w ≤ k → (x + 2 ^ k * y) / 2 ^ b % 2 ^ w ≡ x / 2 ^ b % 2 ^ w
low_bits x y k b w h = go (k - (b + w)) (omega arith)
  where
    go : (d : ℕ) → k ≡ b + (w + d) → (x + 2 ^ k * y) / 2 ^ b % 2 ^ w ≡ x / 2 ^ b % 2 ^ w
    go d e =
        rw (
          e,
          pow-add 2 b (w + d),
          pow-add 2 w d,
          mul_assoc (2 ^ b) (2 ^ w * 2 ^ d) y,
          add-mul-div_left x (2 ^ w * 2 ^ d * y) (pow_pos b),
          mul_assoc (2 ^ w) (2 ^ d) y,
        )
        (add-mul-mod_self_left (x / 2 ^ b) (2 ^ w) (2 ^ d * y))

-- a whole word lower: the number without its lowest word
skip : (w m b : ℕ) → w < 0x100000000 → (w + 0x100000000 * m) / 2 ^ (32 + b) ≡ m / 2 ^ b
skip w m b h =
    rw (pow-add 2 32 b, ← div-div-eq-div-mul (w + 0x100000000 * m) (2 ^ 32) (2 ^ b), add-mul-div_left w m (pow_pos 32), div-eq_of_lt h, zero-add m) refl

-- a field that starts in word j starts in the first word of what follows the j words before it
from_word : (ws : List ℕ) (j b : ℕ) → Words ws → number ws / 2 ^ (32 * j + b) ≡ number (drop j ws) / 2 ^ b
unfolding number
from_word ws zero b h = rw zero-add refl
from_word [] (suc j) b h = rw (zero-div, zero-div) refl
from_word (w ∷ ws) (suc j) b h =
    subst (λ (k : ℕ). (w + 0x100000000 * number ws) / 2 ^ k ≡ number (drop j ws) / 2 ^ b) (omega arith)
    (skip w (number ws) (32 * j + b) (h 0) ∙ from_word ws j b (λ i. h (suc i)))

-- what follows j words starts with word j, 0 past the end
number_drop : (ws : List ℕ) (j : ℕ) → number (drop j ws) ≡ get_or ws j 0 + 0x100000000 * number (drop (suc j) ws)
unfolding number
number_drop [] zero = refl
number_drop [] (suc j) = refl
number_drop (w ∷ ws) zero = refl
number_drop (w ∷ ws) (suc j) = number_drop ws j

-- a field inside word j
in_word : (ws : List ℕ) (j b w : ℕ) → Words ws → b + w ≤ 32 → number ws / 2 ^ (32 * j + b) % 2 ^ w ≡ get_or ws j 0 / 2 ^ b % 2 ^ w
in_word ws j b w h l =
    rw (from_word ws j b h, number_drop ws j) (low_bits (get_or ws j 0) (number (drop (suc j) ws)) 32 b w l)

-- a field inside words j and j + 1
in_pair : (ws : List ℕ) (j b w : ℕ) → Words ws → b + w ≤ 64
    → number ws / 2 ^ (32 * j + b) % 2 ^ w ≡ (get_or ws j 0 + get_or ws (suc j) 0 * 0x100000000) / 2 ^ b % 2 ^ w
in_pair ws j b w h l =
    rw (from_word ws j b h, number_drop ws j, number_drop ws (suc j))
    (subst (λ (x : ℕ). x / 2 ^ b % 2 ^ w ≡ (get_or ws j 0 + get_or ws (suc j) 0 * 0x100000000) / 2 ^ b % 2 ^ w) (omega arith)
    (low_bits (get_or ws j 0 + get_or ws (suc j) 0 * 0x100000000) (number (drop (suc (suc j)) ws)) 64 b w l))

words_drop : (l : List ℕ) (n : ℕ) → Words l → Words (drop n l)
words_drop l n h i = rw (get_or-drop n l i 0) (h (n + i))

words_take : (l : List ℕ) (n : ℕ) → Words l → Words (take n l)
words_take l zero h i = h_zero i
  where
    h_zero : (i : ℕ) → get_or [] i 0 < 0x100000000
    h_zero zero = omega arith
    h_zero (suc i) = omega arith
words_take [] (suc n) h i = h i
words_take (x ∷ l) (suc n) h zero = h 0
words_take (x ∷ l) (suc n) h (suc i) = words_take l n (λ k. h (suc k)) i

-- word j of an entry of n words at `at`
entry_word : (l : List ℕ) (at n j : ℕ) → j < n → get_or (take n (drop at l)) j 0 ≡ get_or l (at + j) 0
entry_word l at n j h = get_or-take n (drop at l) j 0 h ∙ get_or-drop at l j 0

module _ (l : List ℕ) (at n top bottom : ℕ) (words : Words l) (order : bottom ≤ top) (inside : top < 32 * n) where
  place : bottom ≡ 32 * (bottom / 32) + bottom % 32
  place = sym (div-add-mod bottom 32)

  -- the field of an entry of n words at `at` that lies in one word
  pub field_in_word : top / 32 ≡ bottom / 32
      → bits (number (take n (drop at l))) top bottom ≡ get_or l (at + bottom / 32) 0 / 2 ^ (bottom % 32) % 2 ^ (top - bottom + 1)
  field_in_word same =
      ap (λ (k : ℕ). number (take n (drop at l)) / 2 ^ k % 2 ^ (top - bottom + 1)) place
      ∙ in_word (take n (drop at l)) (bottom / 32) (bottom % 32) (top - bottom + 1) (words_take _ n (words_drop l at words)) (omega arith)
      ∙ ap (λ (x : ℕ). x / 2 ^ (bottom % 32) % 2 ^ (top - bottom + 1)) (entry_word l at n (bottom / 32) (omega arith))

  -- the field of an entry of n words at `at` that crosses from one word into the next
  pub field_in_pair : top / 32 ≡ bottom / 32 + 1
      → bits (number (take n (drop at l))) top bottom
      ≡ (get_or l (at + bottom / 32) 0 + get_or l (at + bottom / 32 + 1) 0 * 0x100000000) / 2 ^ (bottom % 32) % 2 ^ (top - bottom + 1)
  field_in_pair next =
      ap (λ (k : ℕ). number (take n (drop at l)) / 2 ^ k % 2 ^ (top - bottom + 1)) place
      ∙ in_pair (take n (drop at l)) (bottom / 32) (bottom % 32) (top - bottom + 1) (words_take _ n (words_drop l at words)) (omega arith)
      ∙ ap (λ (x : ℕ). (x + get_or (take n (drop at l)) (suc (bottom / 32)) 0 * 0x100000000) / 2 ^ (bottom % 32) % 2 ^ (top - bottom + 1))
      (entry_word l at n (bottom / 32) (omega arith))
      ∙ ap (λ (x : ℕ). (get_or l (at + bottom / 32) 0 + x * 0x100000000) / 2 ^ (bottom % 32) % 2 ^ (top - bottom + 1))
      (entry_word l at n (suc (bottom / 32)) (omega arith) ∙ ap (λ (k : ℕ). get_or l k 0) (omega arith))

-- 1 shifted left by less than 64 is that power of 2
pub one_shifted : (w : ℕ) → w < 64 → 1 * 2 ^ w % 2 ^ 64 ≡ 2 ^ w
one_shifted w h = shl_exact 1 w 64 (omega arith) (omega arith) ∙ one-mul (2 ^ w)

-- ---- the image in a buffer
-- a part that ends inside the first n elements
part_in : (n at s : ℕ) (l : List ℕ) → at + s ≤ n → take s (drop at (take n l)) ≡ take s (drop at l)
part_in n zero s l h = take-take s n l (subst (λ (m : ℕ). m ≤ n) (zero-add s) h)
part_in zero (suc at) s l h = absurd (not-suc-le-zero (subst (λ (m : ℕ). m ≤ 0) (suc-add at s) h))
part_in (suc n) (suc at) s [] h = refl
part_in (suc n) (suc at) s (x ∷ l) h = part_in n at s l (le_of_suc-le-suc (subst (λ (m : ℕ). m ≤ suc n) (suc-add at s) h))

pub words_in_lem : (at s : ℕ) (buffer : List ℕ) → at + s ≤ image_words → take s (drop at (image_in buffer)) ≡ take s (drop at buffer)
unfolding image_in
words_in_lem at s buffer h = part_in image_words at s buffer h
