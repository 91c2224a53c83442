-- What the tests of the rules lean on: a pass that marks values, a search that finds none, and the mark of a VLAN that 07 has no entry of.
use Rattle.std.specs.Prelude.{◌≡◌, refl, Bool, true, false, cond, not, ◌||◌, List, ℕ, zero, suc, ◌<◌, ◌≤◌, ltb, eqb, length, get_or}
use Rattle.std.proofs.Common.{sym, ◌∙◌, ap, subst, le_antisymm, le_refl, arith, eq-eqb, ne_eqb, ltb-true, ltb-false}
use Rattle.laws.specs.Chain.{lt_of}
use Rattle.laws.specs.Scan.{some_below, first, flag, Marks, Counting}
use Rattle.laws.specs.ScanLaws.{first_within, counting_end}
use Rattle.image.specs.Layout.{count_of}
use Rattle.image.specs.declared.tables.Table.TheVariants.{VlanLookup}
use Rattle.fields.specs.Fields.{vlanid}
use Rattle.lookup.specs.Vlan.{has_vlan}
use Rattle.broken.specs.Broken.{no_vlan, vlan_twice}
use Rattle.broken.specs.Passes.{Vlans}

-- ---- a pass over values that marks each

-- the pass came to its end n, which is the m that is asked
pub counting_whole : (f : ℕ → ℕ) (size i sum n m : ℕ) (marks : List ℕ) → Counting f size i sum marks → n ≤ i → i ≤ n → n ≡ m → Counting f size m sum marks
counting_whole f size i sum n m marks c a b e = subst (λ (k : ℕ). Counting f size k sum marks) (le_antisymm b a ∙ e) c

pub again_twice : (image : List ℕ) (again : ℕ) (marks : List ℕ) → Vlans image again marks → not (eqb again 0) ≡ vlan_twice image
again_twice image again marks c = counting_end _ _ _ again _ _ marks c (le_refl _) (le_refl _) refl

-- ---- a search finds one exactly where there is one
first_some : (n : ℕ) (p : ℕ → Bool) → some_below n p ≡ not (eqb (first n p) n)
unfolding some_below first
first_some zero p = refl
first_some (suc n) p = by (first_some n p) (ltb (first n p) n) refl (p n)
  where
    here : (t : Bool) → t ≡ not (eqb (cond t n (suc n)) (suc n))
    here true = sym (ap not (ne_eqb n (suc n) (λ q. omega arith)))
    here false = sym (ap not (eq-eqb (suc n) (suc n) refl))

    by : some_below n p ≡ not (eqb (first n p) n) → (s : Bool) → ltb (first n p) n ≡ s → (t : Bool)
        → some_below n p || t ≡ not (eqb (cond s (first n p) (cond t n (suc n))) (suc n))
    by h true e t =
        let l = ltb-true (first n p) n e in
        ap (λ (b : Bool). b || t) (h ∙ ap not (ne_eqb (first n p) n (λ q. omega arith))) ∙ sym (ap not (ne_eqb (first n p) (suc n) (λ q. omega arith)))
    by h false e t =
        ap (λ (b : Bool). b || t) (h ∙ ap not (eq-eqb (first n p) n (le_antisymm (first_within n p) (ltb-false (first n p) n e)))) ∙ here t

-- ---- the mark of a VLAN is 0 exactly where 07 has no entry of it
pub mark_tells : (image marks : List ℕ) (v : ℕ) → v < 4096 → length marks ≡ 4096 → Marks (count_of image VlanLookup) (vlanid image) marks → eqb (get_or marks v 0) 0 ≡ no_vlan image v
mark_tells image marks v l long marked =
    ap (λ (m : ℕ). eqb m 0) (marked v (lt_of v (length marks) 4096 (sym long) l) ∙ ap flag (first_some (count_of image VlanLookup) (has_vlan image v))) ∙ back (no_vlan image v)
  where
    back : (b : Bool) → eqb (flag (not b)) 0 ≡ b
    back true = refl
    back false = refl
