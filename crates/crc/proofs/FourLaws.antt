-- Four words a turn, whatever tables they go in by. The first word of a turn meets the register; what the other three leave does not depend
-- on it, so that two registers share it.
use Rattle.std.specs.Prelude.{◌≡◌, List, [], ◌∷◌, ℕ, suc, ◌+◌, ◌-◌, ◌*◌, ◌^◌, ◌≤◌, ◌<◌, length, get_or, take, drop}
use Rattle.std.proofs.Common.{sym, ap, ap₂, ◌∙◌, arith, drop-cons}
use Rattle.std.proofs.Math.Numerals.{towards_suc}
use Rattle.std.proofs.lemmas.List.{drop-drop, take-append-drop}
use Rattle.std.specs.Simd.{first_chunks}
use Rattle.std.specs.Int.Bits.{bit_xor}
use Rattle.crc.specs.Crc.{bits_out, words_in}
use Rattle.crc.specs.Xor.{xor_assoc}
use Rattle.crc.proofs.Laws.{words_in_four, words_in_append}
use Rattle.crc.specs.Four.{rest}
use Rattle.crc.proofs.Chunks.{chunk_at}

pub turned : (r v w x y a b : ℕ) → v < 2 ^ 32 → w < 2 ^ 32 → x < 2 ^ 32 → y < 2 ^ 32
    → a ≡ bits_out 128 (bit_xor r v) → b ≡ rest w x y → bit_xor a b ≡ words_in r (v ∷ w ∷ x ∷ y ∷ [])
unfolding rest
turned r v w x y a b hv hw hx hy p q = ap₂ bit_xor p q ∙ simp (words_in_four, xor_assoc)

pub turned_list : (r a b : ℕ) (ws : List ℕ) → length ws ≡ 4 → ((i : ℕ) → get_or ws i 0 < 2 ^ 32)
    → a ≡ bits_out 128 (bit_xor r (get_or ws 0 0)) → b ≡ rest (get_or ws 1 0) (get_or ws 2 0) (get_or ws 3 0) → bit_xor a b ≡ words_in r ws
turned_list r a b [] e h p q = absurd (omega arith)
turned_list r a b (v ∷ []) e h p q = absurd (omega arith)
turned_list r a b (v ∷ w ∷ []) e h p q = absurd (omega arith)
turned_list r a b (v ∷ w ∷ x ∷ []) e h p q = absurd (omega arith)
turned_list r a b (v ∷ w ∷ x ∷ y ∷ []) e h p q = turned r v w x y a b (h 0) (h 1) (h 2) (h 3) p q
turned_list r a b (v ∷ w ∷ x ∷ y ∷ z ∷ ws) e h p q = absurd (omega arith)

-- ---- a loop over words, four a turn

four_left : (ws : List ℕ) (i : ℕ) → i + 4 ≤ length ws
    → drop i ws ≡ get_or ws i 0 ∷ get_or ws (i + 1) 0 ∷ get_or ws (i + 2) 0 ∷ get_or ws (i + 3) 0 ∷ drop (i + 4) ws
four_left ws i h =
    simp towards_suc
    (rw (drop-cons ws i 0 (omega arith), drop-cons ws (suc i) 0 (omega arith), drop-cons ws (suc (suc i)) 0 (omega arith), drop-cons ws (suc (suc (suc i))) 0 (omega arith)))

pub turn_more : (r s t : ℕ) (ws : List ℕ) (i : ℕ) → 4 ≤ length ws - i
    → s ≡ words_in r (get_or ws i 0 ∷ get_or ws (i + 1) 0 ∷ get_or ws (i + 2) 0 ∷ get_or ws (i + 3) 0 ∷ []) → words_in r (drop i ws) ≡ t
    → words_in s (drop (i + 4) ws) ≡ t
unfolding words_in
turn_more r s t ws i h e p = rw e (rw (four_left ws i (omega arith)) at p)

-- one more turn has gone in
pub chunk_more : (r s t : ℕ) (ws : List ℕ) (turns : List (List ℕ)) (m i : ℕ) → turns ≡ first_chunks 4 m ws → length turns ≡ m → i < length turns
    → s ≡ words_in r (get_or turns i []) → words_in r (drop (i * 4) ws) ≡ t → words_in s (drop ((i + 1) * 4) ws) ≡ t
chunk_more r s t ws turns m i q long h e p =
    ap (λ (x : ℕ). words_in x (drop ((i + 1) * 4) ws))
    (e ∙ ap (words_in r) (ap (λ (l : List (List ℕ)). get_or l i []) q ∙ chunk_at 4 m ws i [] (rw long at h)))
    ∙ ap (λ (l : List ℕ). words_in (words_in r (take 4 (drop (i * 4) ws))) l) (ap (λ (k : ℕ). drop k ws) next ∙ sym (drop-drop 4 (i * 4) ws))
    ∙ sym (words_in_append r (take 4 (drop (i * 4) ws)) (drop 4 (drop (i * 4) ws)))
    ∙ ap (words_in r) (take-append-drop 4 (drop (i * 4) ws))
    ∙ p
  where
    next : (i + 1) * 4 ≡ i * 4 + 4
    next = omega arith
