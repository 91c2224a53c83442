-- A search of 05: the match that it holds so far, and what entries without the address have not.
use Rattle.std.specs.Prelude.{◌≡◌, refl, Bool, true, false, cond, not, List, ℕ, zero, suc, ◌+◌, ◌-◌, ◌%◌, ◌<◌, ◌≤◌, eqb, ltb, Option, Some, None}
use Rattle.std.proofs.Common.{sym, ◌∙◌, ap, subst, true≢false, eq-eqb, ne_eqb, lt-ltb, le-ltb, add-one, add-zero, le_refl, mod-lt, pow_pos, arith}
use Rattle.std.proofs.Math.Nat.{le_step}
use Rattle.laws.specs.Scan.{some_below}
use Rattle.laws.specs.ScanLaws.{none_at}
use Rattle.fields.specs.Fields.{macaddr, enfport, destports, shared_learn, address_vlanid, index}
use Rattle.lookup.specs.Groups.{from}
use Rattle.lookup.specs.GroupsLaws.{none_more}
use Rattle.addresses.specs.Address.{holds, like_address, has_address, matches, bars}
use Rattle.addresses.specs.LeastLaws.{not_this, still_none, first_match, lower, no_lower, least_zero, leads_taken, leads_kept}
use Rattle.addresses.specs.Leading.{Leading, Kept}
use Rattle.addresses.specs.declared.Best.{Best}

-- ---- entries that are not like the address
-- an address that ends otherwise is another
no_like : (image : List ℕ) (mac i : ℕ) → like_address image (mac % 268435456) i ≡ false → has_address image mac i ≡ false
no_like image mac i h =
    ne_eqb (macaddr image i) mac (λ q. true≢false (sym (eq-eqb (macaddr image i % 268435456) (mac % 268435456) (ap (λ (x : ℕ). x % 268435456) q)) ∙ h))

no_match : (image : List ℕ) (vlan mac i : ℕ) → has_address image mac i ≡ false → matches image vlan mac i ≡ false
no_match image vlan mac i h =
    ap (λ (t : Bool). cond (not t) false (cond (eqb (shared_learn image) 1) true (eqb (address_vlanid image i) vlan))) h

no_bar : (image : List ℕ) (port vlan mac i : ℕ) → has_address image mac i ≡ false → bars image port vlan mac i ≡ false
no_bar image port vlan mac i h =
    ap (λ (t : Bool). cond (eqb (enfport image i) 0) false (cond (holds (destports image i) port) false t)) (no_match image vlan mac i h)
    ∙ neither (eqb (enfport image i) 0) (holds (destports image i) port)
  where
    neither : (a b : Bool) → cond a false (cond b false false) ≡ false
    neither true b = refl
    neither false true = refl
    neither false false = refl

-- none of the entries from i to r is like the address: entry k is one of them
module _ (image : List ℕ) (vlan mac i r : ℕ) (none : some_below (r - i) (from i (like_address image (mac % 268435456))) ≡ false) (k : ℕ) (l : i ≤ k) (m : k < r) where
  other : has_address image mac k ≡ false
  other = no_like image mac k (subst (λ (j : ℕ). like_address image (mac % 268435456) j ≡ false) there (none_at (r - i) (k - i) _ none within))
    where
      there : i + (k - i) ≡ k
      there = omega arith

      within : k - i < r - i
      within = omega arith

  pub unlike_match : matches image vlan mac k ≡ false
  unlike_match = no_match image vlan mac k other

  pub unlike_bar : (port : ℕ) → bars image port vlan mac k ≡ false
  unlike_bar port = no_bar image port vlan mac k other

-- ---- entries from i on of which none is like the address
module _ (image : List ℕ) (vlan mac key i m : ℕ) (is : key ≡ mac % 268435456) (none : some_below m (from i (like_address image key)) ≡ false) where
  without : (k : ℕ) → like_address image key (i + k) ≡ false → has_address image mac (i + k) ≡ false
  without k h = no_like image mac (i + k) (subst (λ (x : ℕ). like_address image x (i + k) ≡ false) is h)

  pub none_match : some_below m (from i (matches image vlan mac)) ≡ false
  none_match = none_more m _ _ (λ k h. no_match image vlan mac (i + k) (without k h)) none

  pub none_bar : (port : ℕ) → some_below m (from i (bars image port vlan mac)) ≡ false
  none_bar port = none_more m _ _ (λ k h. no_bar image port vlan mac (i + k) (without k h)) none

-- ---- one entry more
module _ (image : List ℕ) (vlan mac : ℕ) where
  pub leading_none : Leading image vlan mac 0 None
  leading_none = least_zero (matches image vlan mac) (index image)

  -- an entry that does not match
  pub leading_past : (i : ℕ) (best : Option Best) → matches image vlan mac i ≡ false → Leading image vlan mac i best → Leading image vlan mac (i + 1) best
  leading_past i None h e = subst (λ (k : ℕ). Leading image vlan mac k None) (sym (add-one i)) (still_none _ _ i e h)
  leading_past i (Some best) h (e, l, v) = subst (λ (k : ℕ). Leading image vlan mac k (Some best)) (sym (add-one i)) (not_this _ _ i best.entry e l h, le_step l, v)

  -- a match, the first
  pub leading_first : (i x : ℕ) → matches image vlan mac i ≡ true → x ≡ index image i → Leading image vlan mac i None
      → Leading image vlan mac (i + 1) (Some (record { entry = i; index = x }))
  leading_first i x h q e = subst (λ (k : ℕ). Leading image vlan mac k (Some (record { entry = i; index = x }))) (sym (add-one i)) (first_match _ _ i e h, le_refl _, q)

  -- a match with a lower INDEX
  pub leading_lower : (i x : ℕ) (best : Best) → matches image vlan mac i ≡ true → x ≡ index image i → x < best.index → Leading image vlan mac i (Some best)
      → Leading image vlan mac (i + 1) (Some (record { entry = i; index = x }))
  leading_lower i x best h q m (e, l, v) =
      subst (λ (k : ℕ). Leading image vlan mac k (Some (record { entry = i; index = x }))) (sym (add-one i))
      (lower _ _ i best.entry e l h (subst (λ (k : ℕ). k < index image best.entry) q (subst (λ (k : ℕ). x < k) v m)), le_refl _, q)

  -- a match with none lower
  pub leading_kept : (i x : ℕ) (best : Best) → matches image vlan mac i ≡ true → x ≡ index image i → best.index ≤ x → Leading image vlan mac i (Some best)
      → Leading image vlan mac (i + 1) (Some best)
  leading_kept i x best h q m (e, l, v) =
      subst (λ (k : ℕ). Leading image vlan mac k (Some best)) (sym (add-one i))
      (no_lower _ _ i best.entry e l h (subst (λ (k : ℕ). index image best.entry ≤ k) q (subst (λ (k : ℕ). k ≤ x) v m)), le_step l, v)

  -- entries that do not match
  pub leading_up_to : (i m : ℕ) (best : Option Best) → ((k : ℕ) → i ≤ k → k < i + m → matches image vlan mac k ≡ false) → Leading image vlan mac i best
      → Leading image vlan mac (i + m) best
  leading_up_to i zero best none h = subst (λ (k : ℕ). Leading image vlan mac k best) (sym (add-zero i)) h
  leading_up_to i (suc m) best none h =
      subst (λ (k : ℕ). Leading image vlan mac k best) more
      (leading_past (i + m) best (none (i + m) from_i within) (leading_up_to i m best (λ k l s. none k l (further k s)) h))
    where
      more : i + m + 1 ≡ i + suc m
      more = omega arith

      from_i : i ≤ i + m
      from_i = omega arith

      within : i + m < i + suc m
      within = omega arith

      further : (k : ℕ) → k < i + m → k < i + suc m
      further k s = omega arith

-- ---- the same while the search is under way
module _ (image : List ℕ) (vlan mac : ℕ) where
  -- no INDEX is as high as that of no match
  small : (i : ℕ) → index image i < 1024
  small i = mod-lt _ (pow_pos 10)

  -- an entry that does not match
  pub kept_past : (i : ℕ) (best : Best) → matches image vlan mac i ≡ false → Kept image vlan mac i best → Kept image vlan mac (i + 1) best
  kept_past i best h e = leads_kept _ _ _ e (small i) refl (ap (λ (t : Bool). cond t (ltb (index image i) best.index) false) h) refl refl

  -- a match with a lower INDEX, or the first
  pub kept_lower : (i x : ℕ) (best : Best) → matches image vlan mac i ≡ true → x ≡ index image i → x < best.index → Kept image vlan mac i best
      → Kept image vlan mac (i + 1) (record { entry = i; index = x })
  kept_lower i x best h q m e =
      leads_taken _ _ _ x e refl
      (ap (λ (t : Bool). cond t (ltb (index image i) best.index) false) h ∙ lt-ltb (index image i) best.index (subst (λ (k : ℕ). k < best.index) q m))
      refl refl q

  -- a match with none lower
  pub kept_over : (i x : ℕ) (best : Best) → matches image vlan mac i ≡ true → x ≡ index image i → best.index ≤ x → Kept image vlan mac i best
      → Kept image vlan mac (i + 1) best
  kept_over i x best h q m e =
      leads_kept _ _ _ e (small i) refl
      (ap (λ (t : Bool). cond t (ltb (index image i) best.index) false) h ∙ le-ltb (index image i) best.index (subst (λ (k : ℕ). best.index ≤ k) q m))
      refl refl
