-- Laws of CRC-32: what a run in parts gives, the range of a register, linearity over exclusive or, and a word or four as bits that leave.
use Rattle.std.specs.Prelude.{◌≡◌, refl, List, [], ◌∷◌, ◌++◌, ℕ, zero, suc, ◌+◌, ◌-◌, ◌*◌, ◌/◌, ◌%◌, ◌^◌, ◌≤◌, ◌<◌, length, get_or, take, drop}
use Rattle.std.proofs.Common.{sym, ap, ap₂, ◌∙◌, mod-lt, mod-eq_of_lt, mul-one, zero-add, suc-add, le_of_eq, arith, pow_pos, length-drop, drop-cons, take_all, add-one}
use Rattle.std.proofs.lemmas.Nat.{mod-pow-add, xor_lt, xor_comm}
use Rattle.std.specs.Int.Bits.{bit_xor, differ, xor_shifted, shifted_even, shifted_half}
use Rattle.crc.specs.Crc.{bit, bits_out, byte_in, bytes_in, bytes_of, word_in, words_in}
use Rattle.crc.specs.Xor.{odd_lt, xor_odd, xor_half, xor_assoc, xor_pairs}

-- ---- a run in parts

pub words_in_append : (r : ℕ) (vs ws : List ℕ) → words_in r (vs ++ ws) ≡ words_in (words_in r vs) ws
unfolding words_in
words_in_append r [] ws = refl
words_in_append r (v ∷ vs) ws = words_in_append (word_in r v) vs ws

-- ---- a register stays below 2^32, whatever the words

bit_lt : (r : ℕ) → r < 2 ^ 32 → bit r < 2 ^ 32
unfolding bit
bit_lt r h = xor_lt 32 (r % 2 * 0xEDB8_8320) (r / 2) (omega arith) (omega arith)

pub bits_out_lt : (k r : ℕ) → r < 2 ^ 32 → bits_out k r < 2 ^ 32
unfolding bits_out
bits_out_lt zero r h = h
bits_out_lt (suc k) r h = bits_out_lt k (bit r) (bit_lt r h)

byte_in_lt : (r b : ℕ) → r < 2 ^ 32 → b < 2 ^ 32 → byte_in r b < 2 ^ 32
unfolding byte_in
byte_in_lt r b h g = bits_out_lt 8 (bit_xor r b) (xor_lt 32 r b h g)

pub word_in_lt : (r w : ℕ) → r < 2 ^ 32 → word_in r w < 2 ^ 32
unfolding word_in bytes_in bytes_of
word_in_lt r w h =
    byte_in_lt _ _ (byte_in_lt _ _ (byte_in_lt _ _ (byte_in_lt _ _ h (omega arith)) (omega arith)) (omega arith)) (omega arith)

-- ---- linearity over exclusive or

poly_linear : (x y : ℕ) → x < 2 → y < 2 → differ x y * 0xEDB8_8320 ≡ bit_xor (x * 0xEDB8_8320) (y * 0xEDB8_8320)
poly_linear zero y hx hy = refl
poly_linear (suc zero) zero hx hy = refl
poly_linear (suc zero) (suc zero) hx hy = refl
poly_linear (suc zero) (suc (suc y)) hx hy = absurd (omega arith)
poly_linear (suc (suc x)) y hx hy = absurd (omega arith)

bit_linear : (a b : ℕ) → bit (bit_xor a b) ≡ bit_xor (bit a) (bit b)
unfolding bit
bit_linear a b =
    ap₂ (λ (x y : ℕ). bit_xor (x * 0xEDB8_8320) y) (xor_odd a b) (xor_half a b)
    ∙ ap (λ (x : ℕ). bit_xor x (bit_xor (a / 2) (b / 2))) (poly_linear (a % 2) (b % 2) (odd_lt a) (odd_lt b))
    ∙ xor_pairs (a % 2 * 0xEDB8_8320) (b % 2 * 0xEDB8_8320) (a / 2) (b / 2)

pub bits_out_linear : (k a b : ℕ) → bits_out k (bit_xor a b) ≡ bit_xor (bits_out k a) (bits_out k b)
unfolding bits_out
bits_out_linear zero a b = refl
bits_out_linear (suc k) a b = ap (bits_out k) (bit_linear a b) ∙ bits_out_linear k (bit a) (bit b)

-- ---- bits that leave, in parts

pub bits_out_add : (j k r : ℕ) → bits_out (j + k) r ≡ bits_out k (bits_out j r)
unfolding bits_out
bits_out_add zero k r = ap (λ (n : ℕ). bits_out n r) (zero-add k)
bits_out_add (suc j) k r = ap (λ (n : ℕ). bits_out n r) (suc-add j k) ∙ bits_out_add j k (bit r)

-- zeros leave, and what stood above them is left
pub bits_out_shifted : (k a : ℕ) → bits_out k (a * 2 ^ k) ≡ a
unfolding bits_out bit
bits_out_shifted zero a = mul-one a
bits_out_shifted (suc k) a =
    ap₂ (λ (x y : ℕ). bits_out k (bit_xor (x * 0xEDB8_8320) y)) (shifted_even a k) (shifted_half a k)
    ∙ bits_out_shifted k a

-- the same, with m more bits to leave
pub bits_out_past : (k m n a : ℕ) → n ≡ k + m → bits_out n (a * 2 ^ k) ≡ bits_out m a
bits_out_past k m n a e =
    ap (λ (x : ℕ). bits_out x (a * 2 ^ k)) e ∙ bits_out_add k m (a * 2 ^ k) ∙ ap (bits_out m) (bits_out_shifted k a)

-- the lowest bits of a word and the byte above them
pub byte_above : (k w : ℕ) → bit_xor (w % 2 ^ k) (w / 2 ^ k % 256 * 2 ^ k) ≡ w % 2 ^ (8 + k)
byte_above k w =
    xor_comm (w % 2 ^ k) (w / 2 ^ k % 256 * 2 ^ k) ∙ xor_shifted (w / 2 ^ k % 256) k (w % 2 ^ k) (mod-lt w (pow_pos k))
    ∙ sym (mod-pow-add w 8 k)

-- ---- a word goes in as thirty-two bits

byte_in_above : (k r w : ℕ)
    → byte_in (bits_out k (bit_xor r (w % 2 ^ k))) (w / 2 ^ k % 256) ≡ bits_out (k + 8) (bit_xor r (w % 2 ^ (8 + k)))
unfolding byte_in
byte_in_above k r w =
    ap (λ (b : ℕ). bits_out 8 (bit_xor (bits_out k (bit_xor r (w % 2 ^ k))) b)) (sym (bits_out_shifted k (w / 2 ^ k % 256)))
    ∙ ap (bits_out 8)
    (sym (bits_out_linear k (bit_xor r (w % 2 ^ k)) (w / 2 ^ k % 256 * 2 ^ k))
    ∙ ap (bits_out k) (xor_assoc r (w % 2 ^ k) (w / 2 ^ k % 256 * 2 ^ k) ∙ ap (λ (x : ℕ). bit_xor r x) (byte_above k w)))
    ∙ sym (bits_out_add k 8 (bit_xor r (w % 2 ^ (8 + k))))

word_in_low : (r w : ℕ) → word_in r w ≡ bits_out 32 (bit_xor r (w % 2 ^ 32))
unfolding word_in bytes_in bytes_of byte_in
word_in_low r w =
    ap (λ (x : ℕ). byte_in (byte_in x (w / 65536 % 256)) (w / 16777216 % 256)) (byte_in_above 8 r w)
    ∙ ap (λ (x : ℕ). byte_in x (w / 16777216 % 256)) (byte_in_above 16 r w)
    ∙ byte_in_above 24 r w

pub word_in_bits : (r w : ℕ) → w < 2 ^ 32 → word_in r w ≡ bits_out 32 (bit_xor r w)
word_in_bits r w h = word_in_low r w ∙ ap (λ (x : ℕ). bits_out 32 (bit_xor r x)) (mod-eq_of_lt h)

-- ---- by table: a word's bytes apart, and four words in one turn

-- a word is its four bytes, each at its place
word_bytes : (w : ℕ) → w < 2 ^ 32
    → bit_xor (bit_xor (bit_xor (w % 256) (w / 256 % 256 * 2 ^ 8)) (w / 65536 % 256 * 2 ^ 16)) (w / 16777216 * 2 ^ 24) ≡ w
word_bytes w h =
    ap₂ (λ (x y : ℕ). bit_xor (bit_xor x (w / 65536 % 256 * 2 ^ 16)) (y * 2 ^ 24)) (byte_above 8 w) (sym (mod-eq_of_lt (omega arith)))
    ∙ ap (λ (x : ℕ). bit_xor x (w / 16777216 % 256 * 2 ^ 24)) (byte_above 16 w)
    ∙ byte_above 24 w ∙ mod-eq_of_lt h

-- the bits of a word leave as those of its four bytes
pub bits_out_bytes : (k w : ℕ) → w < 2 ^ 32
    → bits_out (k + 32) w
    ≡ bit_xor
    (bit_xor (bit_xor (bits_out (k + 32) (w % 256)) (bits_out (k + 24) (w / 256 % 256))) (bits_out (k + 16) (w / 65536 % 256)))
    (bits_out (k + 8) (w / 16777216))
bits_out_bytes k w h =
    ap (bits_out (k + 32)) (sym (word_bytes w h))
    ∙ simp bits_out_linear
    (rw (
      bits_out_past 8 (k + 24) (k + 32) (w / 256 % 256) (omega arith),
      bits_out_past 16 (k + 16) (k + 32) (w / 65536 % 256) (omega arith),
      bits_out_past 24 (k + 8) (k + 32) (w / 16777216) (omega arith),
    ))

pub words_in_four : (r v w x y : ℕ) → v < 2 ^ 32 → w < 2 ^ 32 → x < 2 ^ 32 → y < 2 ^ 32
    → words_in r (v ∷ w ∷ x ∷ y ∷ []) ≡ bit_xor (bit_xor (bit_xor (bits_out 128 (bit_xor r v)) (bits_out 96 w)) (bits_out 64 x)) (bits_out 32 y)
unfolding words_in
words_in_four r v w x y hv hw hx hy = simp (word_in_bits, bits_out_linear, ← bits_out_add)

-- ---- a loop over words: what is left of them makes of the register what all of them made of the first

pub words_in_more : (r s t : ℕ) (ws : List ℕ) (i : ℕ) → i < length ws → s ≡ word_in r (get_or ws i 0) → words_in r (drop i ws) ≡ t
    → words_in s (drop (i + 1) ws) ≡ t
unfolding words_in
words_in_more r s t ws i h e p = rw (add-one, e) (rw (drop-cons ws i 0 h) at p)

pub words_in_done : (r t : ℕ) (ws : List ℕ) (i : ℕ) → length ws ≤ i → words_in r (drop i ws) ≡ t → r ≡ t
unfolding words_in
words_in_done r t [] zero h p = p
words_in_done r t [] (suc i) h p = p
words_in_done r t (w ∷ ws) zero h p = absurd (omega arith)
words_in_done r t (w ∷ ws) (suc i) h p = words_in_done r t ws i (omega arith) p

-- what a run leaves over goes in by itself
pub words_in_rest : (r s t : ℕ) (ws : List ℕ) (i : ℕ) → s ≡ words_in r (take (length ws - i) (drop i ws)) → words_in r (drop i ws) ≡ t
    → s ≡ t
words_in_rest r s t ws i e p = e ∙ ap (words_in r) (take_all (length ws - i) (drop i ws) (le_of_eq (length-drop i ws))) ∙ p
