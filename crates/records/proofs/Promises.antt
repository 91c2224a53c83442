-- What is promised of the walk over a list: it goes on inside the list, it skips nothing, it ends; and the code's answer at each place is the
-- only one.
use Rattle.std.proofs.Common.{List, [], ◌∷◌, ℕ, zero, suc, ◌+◌, ◌-◌, ◌<◌, ◌≤◌, arith, ◌≡◌, refl, Bool, true, false, cond, ltb, leb, eqb, length, get_or, Option, Some, None, sym, ◌∙◌, subst, not-suc-le-zero, ltb-false, leb-true}
use Rattle.std.proofs.Math.Path.{ap}
use Rattle.records.specs.Bytes.{number_at}
use Rattle.records.specs.List.{Opens, version, shut, Stands, frame, release, end, refused, opening_of, kind_of, with_count, frame_at, release_at, of_kind, under, stands_at}
use Rattle.records.specs.Answer.{number_of, told}
use Rattle.records.specs.Walk.{after, walk_for, walk, Stopped, Inside}
use Rattle.records.specs.declared.Kind.{Kind}
use Rattle.records.specs.declared.Kind.TheVariants.{Frame, Release}
use Rattle.records.specs.declared.Refusal.{Refusal}
use Rattle.records.specs.declared.Refusal.TheVariants as refusal
use Rattle.records.specs.declared.Record.{Record}
use Rattle.records.specs.declared.Record.TheVariants as answer

-- ---- a record lies inside its list, and the next place is above its own

either : (P : Stands → Type 0) (b : Bool) (x y : Stands) → (b ≡ true → P x) → (b ≡ false → P y) → P (cond b x y)
either P true x y p q = p refl
either P false x y p q = q refl

module _ (list : List ℕ) (at : ℕ) where
  abbrev In : Stands → Type 0
  In s = Inside list at s

  of_count : (count : ℕ) → (ltb (length list - at) 12 ≡ false) → In (with_count list at count)
  of_count count h =
      either In (ltb (length list - at - 12) count) _ _ (λ _. tt)
      (λ e. (omega arith, refl, omega (arith, ltb-false)))

  of_kind_lem : (k : Option Kind) → In (of_kind k list at)
  unfolding frame_at release_at
  of_kind_lem (Some Frame) = either In (ltb (length list - at) 12) _ _ (λ _. tt) (of_count (number_at list (at + 10) 2))
  of_kind_lem (Some Release) = either In (ltb (length list - at) 2) _ _ (λ _. tt) (λ e. (omega arith, omega (arith, ltb-false)))
  of_kind_lem None = tt

  of_opening : (o : Opens) → In (under o list at)
  of_opening (shut n) = tt
  of_opening (version v) =
      either In (leb (length list) at) _ _ (λ e. leb-true _ _ e) (λ _. of_kind_lem (kind_of v (get_or list at 0)))

  pub inside : In (stands_at list at)
  unfolding stands_at
  inside = of_opening (opening_of list)

-- a list that does not open has no record at any place
pub not_opened : (list : List ℕ) (at n : ℕ) → opening_of list ≡ shut n → stands_at list at ≡ refused n
unfolding stands_at
not_opened list at n e = rw e refl

-- ---- the walk: fuel is no part of its meaning, and it ends

-- two walks that agree at every later place inside the list agree behind what stands here
after_same : (list : List ℕ) (at : ℕ) (s : Stands) (f g : ℕ → List Stands) → Inside list at s
    → ((next : ℕ) → at < next → next ≤ length list → f next ≡ g next) → after s f ≡ after s g
after_same list at (frame port time start count next) f g i h = h next (omega arith) i.2
after_same list at (release partition next) f g i h = h next i.0 i.1
after_same list at end f g i h = refl
after_same list at (refused n) f g i h = refl

module _ (list : List ℕ) where
  same_walk : (m n at : ℕ) → length list - at < m → length list - at < n → walk_for m list at ≡ walk_for n list at
  unfolding walk_for
  same_walk zero n at h k = absurd (not-suc-le-zero h)
  same_walk (suc m) zero at h k = absurd (not-suc-le-zero k)
  same_walk (suc m) (suc n) at h k =
      ap (λ (rest : List Stands). stands_at list at ∷ rest)
      (after_same list at (stands_at list at) (walk_for m list) (walk_for n list) (inside list at)
      (λ next above within. same_walk m n next (omega arith) (omega arith)))

  -- each record follows the one before it, at its next place, and none is skipped
  pub walks_on : (at : ℕ) → walk list at ≡ stands_at list at ∷ after (stands_at list at) (walk list)
  unfolding walk_for
  walks_on at =
      ap (λ (rest : List Stands). stands_at list at ∷ rest)
      (after_same list at (stands_at list at) (walk_for (length list) list) (walk list) (inside list at)
      (λ next above within. same_walk (length list) (suc (length list)) next (omega arith) (omega arith)))

  stopped_more : (s : Stands) (rest : List Stands) → Stopped rest → Stopped (s ∷ rest)
  stopped_more s [] p = absurd p
  stopped_more s (t ∷ rest) p = p

  stopped_after : (at : ℕ) (s : Stands) (f : ℕ → List Stands) → Inside list at s
      → ((next : ℕ) → at < next → next ≤ length list → Stopped (f next)) → Stopped (s ∷ after s f)
  stopped_after at (frame port time start count next) f i h = stopped_more (frame port time start count next) (f next) (h next (omega arith) i.2)
  stopped_after at (release partition next) f i h = stopped_more (release partition next) (f next) (h next i.0 i.1)
  stopped_after at end f i h = tt
  stopped_after at (refused n) f i h = tt

  stopped_for : (fuel at : ℕ) → length list - at < fuel → Stopped (walk_for fuel list at)
  unfolding walk_for
  stopped_for zero at h = absurd (not-suc-le-zero h)
  stopped_for (suc fuel) at h =
      stopped_after at (stands_at list at) (walk_for fuel list) (inside list at) (λ next above within. stopped_for fuel next (omega arith))

  -- every walk ends, at the list's end or at a refusal
  pub ends : (at : ℕ) → Stopped (walk list at)
  ends at = stopped_for (suc (length list)) at (omega arith)

-- ---- the code's answer is determined: what it says gives the answer back

abbrev refusal_of : ℕ → Refusal
refusal_of n =
    cond (eqb n 54) refusal.Size
    (cond (eqb n 50) refusal.Mark (cond (eqb n 51) refusal.Version (cond (eqb n 52) refusal.Cut refusal.Kind)))

abbrev answer_of : Stands → Record
answer_of (frame port time start count next) = answer.Frame port time start count next
answer_of (release partition next) = answer.Release partition next
answer_of end = answer.End
answer_of (refused n) = answer.Refused (refusal_of n)

refusal_back : (why : Refusal) → refusal_of (number_of why) ≡ why
refusal_back refusal.Size = refl
refusal_back refusal.Mark = refl
refusal_back refusal.Version = refl
refusal_back refusal.Cut = refl
refusal_back refusal.Kind = refl

answer_back : (r : Record) → answer_of (told r) ≡ r
answer_back (answer.Frame port time start count next) = refl
answer_back (answer.Release partition next) = refl
answer_back answer.End = refl
answer_back (answer.Refused why) = ap answer.Refused (refusal_back why)

-- at each place of each list the promise permits one answer
pub one_answer : (list : List ℕ) (at : ℕ) (a b : Record) → told a ≡ stands_at list at → told b ≡ stands_at list at → a ≡ b
one_answer list at a b p q = sym (answer_back a) ∙ ap answer_of (p ∙ sym q) ∙ answer_back b

-- ---- for callers: what a `match` on an answer knows of the places in it

module _ (list : List ℕ) (at : ℕ) (r : Record) (is : told r ≡ stands_at list at) where
  case_inside : (case : Record) → r ≡ case → Inside list at (told case)
  case_inside case e = subst (λ (s : Stands). Inside list at s) (sym is ∙ ap told e) (inside list at)

  -- a frame's bytes are `list[start..next]`
  module _ (port time start count next : ℕ) (e : r ≡ answer.Frame port time start count next) where
    pub frame_order : start ≤ next
    frame_order = let i = case_inside (answer.Frame port time start count next) e in omega arith

    pub frame_within : next ≤ length list
    frame_within = (case_inside (answer.Frame port time start count next) e).2

    -- what is left of the list falls
    pub frame_falls : length list - next < length list - at
    frame_falls = let i = case_inside (answer.Frame port time start count next) e in omega arith

  pub release_falls : (partition next : ℕ) → r ≡ answer.Release partition next → length list - next < length list - at
  release_falls partition next e = let i = case_inside (answer.Release partition next) e in omega arith

pub ruleset steps = (frame_order, frame_within, frame_falls, release_falls)
