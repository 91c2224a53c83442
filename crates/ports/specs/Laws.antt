-- Equal parts make equal wholes.
use Rattle.std.specs.Prelude.{◌≡◌, refl, false, ℕ, zero, suc, ◌/◌, ◌%◌, ◌^◌, ◌<◌, eqb}
use Rattle.std.proofs.Common.{◌∙◌, ap, arith}
use Rattle.std.specs.Int.Bits.{bit_and, and_zero_r}
use Rattle.std.proofs.lemmas.Nat.{and_shr, and_mod}
use Rattle.addresses.specs.Address.{holds}
use Rattle.ports.specs.Ports.{mask_of, others, cut}
use Rattle.ports.specs.Sent.{sending}

pub same_cut : (a b c d e a' b' c' d' e' : ℕ) → a ≡ a' → b ≡ b' → c ≡ c' → d ≡ d' → e ≡ e' → cut a b c d e ≡ cut a' b' c' d' e'
same_cut a b c d e a' b' c' d' e' p q r s t =
    ap (λ (x : ℕ). cut x b c d e) p
    ∙ ap (λ (x : ℕ). cut a' x c d e) q
    ∙ ap (λ (x : ℕ). cut a' b' x d e) r
    ∙ ap (λ (x : ℕ). cut a' b' c' x e) s
    ∙ ap (λ (x : ℕ). cut a' b' c' d' x) t

pub same_sending : (p v q t a b c d e t' a' b' c' d' e' : ℕ) → t ≡ t' → a ≡ a' → b ≡ b' → c ≡ c' → d ≡ d' → e ≡ e'
    → sending p v q t a b c d e ≡ sending p v q t' a' b' c' d' e'
same_sending p v q t a b c d e t' a' b' c' d' e' h i j k l m =
    ap (λ (x : ℕ). sending p v q x a b c d e) h
    ∙ ap (λ (x : ℕ). sending p v q t' x b c d e) i
    ∙ ap (λ (x : ℕ). sending p v q t' a' x c d e) j
    ∙ ap (λ (x : ℕ). sending p v q t' a' b' x d e) k
    ∙ ap (λ (x : ℕ). sending p v q t' a' b' c' x e) l
    ∙ ap (λ (x : ℕ). sending p v q t' a' b' c' d' x) m

pub same_mask : (a b c d e a' b' c' d' e' : ℕ) → a ≡ a' → b ≡ b' → c ≡ c' → d ≡ d' → e ≡ e' → mask_of a b c d e ≡ mask_of a' b' c' d' e'
same_mask a b c d e a' b' c' d' e' p q r s t =
    ap (λ (x : ℕ). mask_of x b c d e) p
    ∙ ap (λ (x : ℕ). mask_of a' x c d e) q
    ∙ ap (λ (x : ℕ). mask_of a' b' x d e) r
    ∙ ap (λ (x : ℕ). mask_of a' b' c' x e) s
    ∙ ap (λ (x : ℕ). mask_of a' b' c' d' x) t

-- no frame goes back to the port that it came from
pub not_back : (mask port : ℕ) → port < 5 → holds (bit_and mask (others port)) port ≡ false
not_back mask port h = ap (λ (x : ℕ). eqb x 1) (shifted mask port ∙ ap (λ (b : ℕ). bit_and (mask / 2 ^ port % 2) b) (clear port h) ∙ and_zero_r (mask / 2 ^ port % 2))
  where
    shifted : (mask port : ℕ) → bit_and mask (others port) / 2 ^ port % 2 ≡ bit_and (mask / 2 ^ port % 2) (others port / 2 ^ port % 2)
    shifted mask port = ap (λ (x : ℕ). x % 2) (and_shr mask (others port) port) ∙ and_mod (mask / 2 ^ port) (others port / 2 ^ port) 1

    clear : (port : ℕ) → port < 5 → others port / 2 ^ port % 2 ≡ 0
    clear zero h = refl
    clear (suc zero) h = refl
    clear (suc (suc zero)) h = refl
    clear (suc (suc (suc zero))) h = refl
    clear (suc (suc (suc (suc zero)))) h = refl
    clear (suc (suc (suc (suc (suc n))))) h = absurd (omega arith)
