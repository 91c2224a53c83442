-- What each way through a header and through the stream's end leaves, as the machine says it.
use Rattle.std.proofs.Common.{◌≡◌, refl, sym, ◌∙◌, ap, List, [], ◌∷◌, ◌++◌, ℕ, ◌≤◌, eqb, lit<, length, replicate, drop-set-lt, eq-eqb, ne_eqb}
use Rattle.laws.specs.Chain.{hit, pass}
use Rattle.crc.specs.Crc.{word_in, words_in, start, finished, checksum}
use Rattle.image.specs.Layout.{image_words, image_in, mark_at, cleared, marked}
use Rattle.image.specs.Sound.{Within, Bounded}
use Rattle.rules.specs.Rules.{ruled}
use Rattle.stream.specs.Machine.{at, told, refuse, finish}
use Rattle.stream.specs.Fine.{Fine}
use Rattle.stream.specs.FineLaws.{store_fine, mark_kept}

-- ---- the end
-- the mark does not show once the image is cleared
cleared_marked : (buffer : List ℕ) → cleared (marked buffer) ≡ cleared buffer
unfolding cleared
cleared_marked buffer = ap (λ (l : List ℕ). replicate image_words 0 ++ l) (drop-set-lt image_words buffer mark_at 1 (lit< tt))

-- the mark stands behind the counts and leaves them within their limits
pub bounded_marked : (buffer : List ℕ) → image_words ≤ length buffer → Within (image_in buffer) → Bounded (marked buffer)
bounded_marked buffer w within =
    let f : Fine (at (told 0) (marked buffer)) = store_fine (told 0) buffer mark_at 1 w within (mark_kept buffer) tt in
    record { whole = f.whole; within = f.within }

pub finish_refused : (buffer : List ℕ) (n : ℕ) → n ≡ ruled (image_in (marked buffer)) → (n ≡ 0 → ⊥) → refuse (marked buffer) n ≡ finish buffer
finish_refused buffer n e ne =
    ap (λ (b : List ℕ). at (told n) b) (cleared_marked buffer)
    ∙ ap (λ (x : ℕ). refuse buffer x) e
    ∙ pass _ (eqb (ruled (image_in (marked buffer))) 0) _ _ _ refl (ne_eqb _ 0 (λ q. ne (e ∙ q))) refl

pub finish_told : (buffer : List ℕ) (n : ℕ) → n ≡ ruled (image_in (marked buffer)) → n ≡ 0 → at (told 0) (marked buffer) ≡ finish buffer
finish_told buffer n e z = hit _ (eqb (ruled (image_in (marked buffer))) 0) _ _ refl (eq-eqb _ 0 (sym e ∙ z))

-- the two header words go in one after the other
pub two_words : (h0 h1 a b f : ℕ) → a ≡ word_in start h0 → b ≡ word_in a h1 → f ≡ finished b → f ≡ checksum (h0 ∷ h1 ∷ [])
unfolding checksum words_in
two_words h0 h1 a b f ea eb ef = ef ∙ ap finished (eb ∙ ap (λ (x : ℕ). word_in x h1) ea)
