-- A buffer with an image whose counts are all within their limits: each entry below its table's count is there to read.
use Rattle.std.specs.Prelude.{◌≡◌, refl, List, [], ◌∷◌, ◌++◌, ℕ, zero, suc, ◌<◌, ◌≤◌, drop, replicate}
use Rattle.std.proofs.Common.{sym, ◌∙◌, ap, subst, arith}
use Rattle.image.specs.Layout.{image_words, image_in, count_of, Held, cleared}
use Rattle.image.specs.Sound.{Bounded}
use Rattle.image.specs.SoundLaws.{held}
use Rattle.image.specs.declared.tables.Table.{Table}
use Rattle.image.specs.declared.tables.Table.TheVariants.{LookupParameters}
use Rattle.image.specs.Rows.{most_of}
use Rattle.stream.specs.Fine.{Fine}
use Rattle.stream.specs.FineLaws.{cleared_fine, step_fine}
use Rattle.stream.specs.Machine.{Machine, at, fresh, step}
use Rattle.stream.specs.declared.Load.{Load}
use Rattle.stream.specs.Leaves.{Leaves}
use Rattle.stream.proofs.StatesLaws.{leaves_at}

-- what every step of a load keeps
pub fit : (l : Load) (buffer : List ℕ) → Fine (at l buffer) → Bounded buffer
fit l buffer f = record { whole = f.whole; within = f.within }

-- a load that has not begun, over zeros
zeros : (n m : ℕ) → replicate {A = ℕ} n 0 ++ drop m [] ≡ replicate {A = ℕ} n 0
zeros zero zero = refl
zeros zero (suc m) = refl
zeros (suc n) m = ap (λ (l : List ℕ). 0 ∷ l) (zeros n m)

pub starts : (l : Load) (buffer : List ℕ) → l ≡ fresh → buffer ≡ replicate image_words 0 → Fine (at l buffer)
unfolding cleared
starts l buffer e z =
    subst (λ (m : Machine). Fine m)
    (ap (λ (b : List ℕ). at fresh b) (zeros image_words image_words ∙ sym z) ∙ ap (λ (x : Load). at x buffer) (sym e))
    (cleared_fine fresh [] tt)

-- one word more
pub goes_on : (l r s : Load) (buffer after b : List ℕ) (w : ℕ) → Fine (at l buffer) → Leaves (step (at l buffer) w) r after → s ≡ r → b ≡ after → Fine (at s b)
goes_on l r s buffer after b w f e h k =
    subst (λ (m : Machine). Fine m)
    (sym (ap (λ (x : Load). at x b) h ∙ ap (λ (x : List ℕ). at r x) k ∙ leaves_at e))
    (step_fine (at l buffer) w f)

-- an entry below the count that was read is there
pub held_at : (buffer : List ℕ) (t : Table) (i n : ℕ) → Bounded buffer → n ≡ count_of (image_in buffer) t → i < n → Held t i buffer
held_at buffer t i n f e g = held buffer t i f (subst (λ (m : ℕ). i < m) e g)

-- the same by the table's name
pub held_as : (buffer : List ℕ) (t u : Table) (i : ℕ) → Held t i buffer → t ≡ u → Held u i buffer
held_as buffer t u i h e = subst (λ (x : Table). Held x i buffer) e h

-- the one entry of 0E is entry 0
pub held_first : (buffer : List ℕ) (t u : Table) (i : ℕ) → Held t i buffer → t ≡ u → Held u 0 buffer
held_first buffer t u i h e =
    let g : Held u i buffer = held_as buffer t u i h e in
    let there : i < count_of (image_in buffer) u = g.there in record { whole = g.whole; within = g.within; there = omega arith }

-- 0D has one entry at most, which is what its reader asks
pub learnt : (buffer : List ℕ) (t : Table) (i : ℕ) → Held t i buffer → t ≡ LookupParameters → count_of (image_in buffer) LookupParameters ≤ most_of LookupParameters
learnt buffer t i h e = (held_as buffer t LookupParameters i h e).within

pub few : (buffer : List ℕ) → Bounded buffer → count_of (image_in buffer) LookupParameters ≤ most_of LookupParameters
few buffer f = f.within LookupParameters
