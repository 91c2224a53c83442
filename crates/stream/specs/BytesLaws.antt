-- Words of bytes: the word that four bytes make, and a stream of bytes read from some place on.
use Rattle.std.specs.Prelude.{◌≡◌, refl, List, [], ◌∷◌, ◌++◌, ℕ, zero, suc, ◌+◌, ◌*◌, ◌<◌, ◌≤◌, length, get_or, take, drop}
use Rattle.std.proofs.Common.{sym, ◌∙◌, ap, subst, add-zero, arith, length-drop, drop-drop, get_or-drop}
use Rattle.stream.specs.Paper.{words_of}
use Rattle.stream.specs.Bytes.{word_at}

abbrev word : List ℕ → ℕ
word l = ((get_or l 0 0 * 256 + get_or l 1 0) * 256 + get_or l 2 0) * 256 + get_or l 3 0

first_word : (l : List ℕ) → 4 ≤ length l → words_of l ≡ word l ∷ words_of (drop 4 l)
unfolding words_of
first_word [] h = absurd (omega arith)
first_word (a ∷ []) h = absurd (omega arith)
first_word (a ∷ b ∷ []) h = absurd (omega arith)
first_word (a ∷ b ∷ c ∷ []) h = absurd (omega arith)
first_word (a ∷ b ∷ c ∷ d ∷ l) h = refl

no_word : (l : List ℕ) → length l < 4 → words_of l ≡ []
unfolding words_of
no_word [] h = refl
no_word (a ∷ []) h = refl
no_word (a ∷ b ∷ []) h = refl
no_word (a ∷ b ∷ c ∷ []) h = refl
no_word (a ∷ b ∷ c ∷ d ∷ l) h = absurd (omega arith)

word_at_lem : (bytes : List ℕ) (i : ℕ) → word (drop i bytes) ≡ word_at bytes i
word_at_lem bytes i =
    ap (λ (x : ℕ). ((x * 256 + get_or (drop i bytes) 1 0) * 256 + get_or (drop i bytes) 2 0) * 256 + get_or (drop i bytes) 3 0)
    (get_or-drop i bytes 0 0 ∙ ap (λ (k : ℕ). get_or bytes k 0) (add-zero i))
    ∙ ap (λ (x : ℕ). ((get_or bytes i 0 * 256 + x) * 256 + get_or (drop i bytes) 2 0) * 256 + get_or (drop i bytes) 3 0) (get_or-drop i bytes 1 0)
    ∙ ap (λ (x : ℕ). ((get_or bytes i 0 * 256 + get_or bytes (i + 1) 0) * 256 + x) * 256 + get_or (drop i bytes) 3 0) (get_or-drop i bytes 2 0)
    ∙ ap (λ (x : ℕ). ((get_or bytes i 0 * 256 + get_or bytes (i + 1) 0) * 256 + get_or bytes (i + 2) 0) * 256 + x) (get_or-drop i bytes 3 0)

-- four bytes from i on are one word, and the others follow
pub words_from : (bytes : List ℕ) (i : ℕ) → i + 4 ≤ length bytes → words_of (drop i bytes) ≡ word_at bytes i ∷ words_of (drop (i + 4) bytes)
words_from bytes i h =
    first_word (drop i bytes) (subst (λ (n : ℕ). 4 ≤ n) (sym (length-drop i bytes)) (omega arith))
    ∙ ap (λ (x : ℕ). x ∷ words_of (drop 4 (drop i bytes))) (word_at_lem bytes i)
    ∙ ap (λ (l : List ℕ). word_at bytes i ∷ words_of l) (drop-drop 4 i bytes)

-- fewer than four bytes are no word
pub words_none : (bytes : List ℕ) (i : ℕ) → length bytes < i + 4 → i ≤ length bytes → words_of (drop i bytes) ≡ []
words_none bytes i h k = no_word (drop i bytes) (subst (λ (n : ℕ). n < 4) (sym (length-drop i bytes)) (omega arith))

-- bytes of whole words, and the others behind them
pub words_split : (c n : ℕ) (l : List ℕ) → n ≡ 4 * c → n ≤ length l → words_of (take n l) ++ words_of (drop n l) ≡ words_of l
unfolding words_of
words_split zero zero l e h = refl
words_split zero (suc n) l e h = absurd (omega arith)
words_split (suc c) zero l e h = absurd (omega arith)
words_split (suc c) (suc zero) l e h = absurd (omega arith)
words_split (suc c) (suc (suc zero)) l e h = absurd (omega arith)
words_split (suc c) (suc (suc (suc zero))) l e h = absurd (omega arith)
words_split (suc c) (suc (suc (suc (suc n)))) [] e h = absurd (omega arith)
words_split (suc c) (suc (suc (suc (suc n)))) (a ∷ []) e h = absurd (omega arith)
words_split (suc c) (suc (suc (suc (suc n)))) (a ∷ b ∷ []) e h = absurd (omega arith)
words_split (suc c) (suc (suc (suc (suc n)))) (a ∷ b ∷ d ∷ []) e h = absurd (omega arith)
words_split (suc c) (suc (suc (suc (suc n)))) (a ∷ b ∷ d ∷ f ∷ l) e h = ap (λ (r : List ℕ). (((a * 256 + b) * 256 + d) * 256 + f) ∷ r) (words_split c n l (omega arith) (omega arith))
