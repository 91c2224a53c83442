-- Laws of a run of the rules, one after the other up to the first that is broken. None of them counts the rules. The code asks the rules in a row, and its
-- proof needs none of these: they say how far the list is asked.
use Rattle.std.specs.Prelude.{◌≡◌, refl, Bool, true, false, cond, not, List, [], ◌∷◌, ℕ, zero, suc, ◌+◌, ◌<◌, ◌≤◌, T, eqb, length, get_or}
use Rattle.std.proofs.Common.{sym, ◌∙◌, ap, subst, le_antisymm, le_of_suc-le-suc, not-suc-le-zero, zero-lt-suc, eq-eqb}
use Rattle.std.proofs.Math.Nat.{suc-le-suc_iff}
use Rattle.std.proofs.Math.ListN.{get_or-eq_default}
use Rattle.laws.specs.Chain.{lt_of}
use Rattle.laws.specs.ScanLaws.{some_none, some_not, none_at, misses_above}
use Rattle.laws.specs.Scan.{Misses}
use Rattle.laws.specs.Table.{both}
use Rattle.laws.specs.TableLaws.{both_left, both_right}
use Rattle.image.specs.Layout.{count_of}
use Rattle.image.specs.SoundLaws.{complete}
use Rattle.image.specs.declared.tables.Table.TheVariants.{MacConfiguration, ForwardingParameters}
use Rattle.broken.specs.PassesLaws.{again_twice}
use Rattle.rules.specs.Rules.{Rule, rules, first_of, ruled, rule_count, blank, rule_at, said, broken_before}

-- ---- the first one broken, of any list of rules

-- the image breaks none of the first k
abbrev Past : List Rule → List ℕ → ℕ → Type 0
Past rs image k = (j : ℕ) → j < k → (get_or rs j blank).broken image ≡ false

past_one : (r : Rule) (rs : List Rule) (image : List ℕ) (k : ℕ) → Past (r ∷ rs) image (suc k) → first_of rs image ≡ first_of (r ∷ rs) image
past_one r rs image k past = sym (ap (λ (t : Bool). cond t r.number (first_of rs image)) (past zero (zero-lt-suc k)))

past_rest : (r : Rule) (rs : List Rule) (image : List ℕ) (k : ℕ) → Past (r ∷ rs) image (suc k) → Past rs image k
past_rest r rs image k past j h = past (suc j) (suc-le-suc_iff.1 h)

-- it breaks none before the k-th, and the k-th
first_at : (rs : List Rule) (image : List ℕ) (k : ℕ) → k < length rs → Past rs image k → (get_or rs k blank).broken image ≡ true → (get_or rs k blank).number ≡ first_of rs image
first_at [] image k l past b = absurd (not-suc-le-zero l)
first_at (r ∷ rs) image zero l past b = sym (ap (λ (t : Bool). cond t r.number (first_of rs image)) b)
first_at (r ∷ rs) image (suc k) l past b = first_at rs image k (le_of_suc-le-suc l) (past_rest r rs image k past) b ∙ past_one r rs image k past

-- it breaks none
first_past : (rs : List Rule) (image : List ℕ) → Past rs image (length rs) → 0 ≡ first_of rs image
first_past [] image past = refl
first_past (r ∷ rs) image past = first_past rs image (past_rest r rs image (length rs) past) ∙ past_one r rs image (length rs) past

-- none has the number 0
abbrev numbered : List Rule → Bool
numbered [] = true
numbered (r ∷ rs) = both (not (eqb r.number 0)) (numbered rs)

number_at : (rs : List Rule) → T (numbered rs) → (k : ℕ) → k < length rs → (get_or rs k blank).number ≡ 0 → ⊥
number_at [] t k l e = not-suc-le-zero l
number_at (r ∷ rs) t zero l e = subst (λ (b : Bool). T (not b)) (eq-eqb r.number 0 e) (both_left (not (eqb r.number 0)) (numbered rs) t)
number_at (r ∷ rs) t (suc k) l e = number_at rs (both_right (not (eqb r.number 0)) (numbered rs) t) k (le_of_suc-le-suc l) e

-- ---- the run: n is what rule k says, and no rule before k is broken

past_rules : (image : List ℕ) (k : ℕ) → broken_before image k ≡ false → Past rules image k
unfolding broken_before
past_rules image k e j h = none_at k j (λ i. (rule_at i).broken image) e h

pub run_none : (image : List ℕ) → broken_before image 0 ≡ false
unfolding broken_before
run_none image = some_none (λ j. (rule_at j).broken image)

-- n is not 0: it is the answer
pub run_broken : (image : List ℕ) (k n : ℕ) → n ≡ said image k → (n ≡ 0 → ⊥) → k < rule_count → broken_before image k ≡ false → n ≡ ruled image
unfolding said ruled
run_broken image k n e ne l past = by ((rule_at k).broken image) refl
  where
    by : (b : Bool) → (rule_at k).broken image ≡ b → n ≡ first_of rules image
    by true q = e ∙ ap (λ (t : Bool). cond t (rule_at k).number 0) q ∙ first_at rules image k l (past_rules image k past) q
    by false q = absurd (ne (e ∙ ap (λ (t : Bool). cond t (rule_at k).number 0) q))

-- n is 0: rule k is not broken either
pub run_more : (image : List ℕ) (k n : ℕ) → n ≡ said image k → n ≡ 0 → k < rule_count → broken_before image k ≡ false → broken_before image (k + 1) ≡ false
unfolding said broken_before
run_more image k n e z l past = some_not k (λ j. (rule_at j).broken image) past (by ((rule_at k).broken image) refl)
  where
    by : (b : Bool) → (rule_at k).broken image ≡ b → b ≡ false
    by true q = absurd (number_at rules tt k l (sym (e ∙ ap (λ (t : Bool). cond t (rule_at k).number 0) q) ∙ z))
    by false q = refl

-- there is no rule k: none is broken
pub run_end : (image : List ℕ) (k : ℕ) → k ≤ rule_count → rule_count ≤ k → broken_before image k ≡ false → 0 ≡ ruled image
unfolding ruled
run_end image k a b past = first_past rules image (subst (Past rules image) (le_antisymm a b) (past_rules image k past))

-- ---- the match on k

-- what the arm for i answers is what the rule at i says
pub arm_says : (image : List ℕ) (k i r : ℕ) (b : Bool) → k ≡ i → r ≡ cond b (rule_at i).number 0 → b ≡ (rule_at i).broken image → r ≡ said image k
unfolding said
arm_says image k i r b e q h = q ∙ ap (λ (t : Bool). cond t (rule_at i).number 0) h ∙ sym (ap (λ (j : ℕ). said image j) e)

-- the arm for all others answers 0: behind the list there is no rule
pub no_rule : (image : List ℕ) (k : ℕ) → Misses rule_count k → 0 ≡ said image k
unfolding said
no_rule image k m = sym (ap (λ (r : Rule). cond (r.broken image) r.number 0) (get_or-eq_default rules blank {n = k} (misses_above rule_count k m)))

-- rule 20 is the list's first: past it, what it asks for is there
past_20 : (image : List ℕ) (k i : ℕ) → broken_before image k ≡ false → k ≡ i → 0 < i → (rule_at 0).broken image ≡ false
past_20 image k i past e h = past_rules image k past 0 (lt_of 0 k i (sym e) h)

pub ports_there : (image : List ℕ) (k i : ℕ) → broken_before image k ≡ false → k ≡ i → 0 < i → count_of image MacConfiguration ≡ 5
ports_there image k i past e h = (complete image (past_20 image k i past e h)).ports

pub spaces_there : (image : List ℕ) (k i : ℕ) → broken_before image k ≡ false → k ≡ i → 0 < i → count_of image ForwardingParameters ≡ 1
spaces_there image k i past e h = (complete image (past_20 image k i past e h)).spaces

-- the laws by subject: what a later rule may lean on, and what a rule says
pub ruleset asked = (ports_there, spaces_there)

pub ruleset says = (arm_says, again_twice)
