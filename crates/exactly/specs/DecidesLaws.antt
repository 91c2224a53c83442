-- The laws by which a test decides a clause, by the form of the test.
use Rattle.std.specs.Prelude.{◌≡◌, refl, ◌⊎◌, Bool, true, false, cond, not, ◌||◌, ℕ, zero, suc, ◌<◌, ◌≤◌, ltb, leb, eqb}
use Rattle.std.proofs.Common.{sym, ◌∙◌, ap, subst, inl, inr, ⊎_elim, true≢false, le_antisymm, le_of_suc-le-suc, not-suc-le-zero, lt-suc_self, lt_irrefl, eq-or-lt_of_le, arith, ltb-true, ltb-false, leb-true, eqb-true, lt-ltb, le-ltb, le-leb, eq-eqb}
use Rattle.std.proofs.lemmas.Bool.{false≢true, not-true}
use Rattle.std.proofs.Math.Nat.{le_step}
use Rattle.laws.specs.Scan.{some_below, first}
use Rattle.laws.specs.ScanLaws.{some_found, first_within, first_of_none}
use Rattle.exactly.specs.First.{Some}
use Rattle.exactly.specs.Decides.{Decides}

-- a clause more that has its test
pub also : {P Q : Type 0} → P → Q → P × Q
also p q = (p, q)

-- below
pub by_lt : (a b : ℕ) → Decides (ltb a b) (a < b)
by_lt a b = (ltb-true a b, lt-ltb a b)

-- at most
pub by_le : (a b : ℕ) → Decides (leb a b) (a ≤ b)
by_le a b = (leb-true a b, le-leb a b)

-- equal
pub by_eq : (a b : ℕ) → Decides (eqb a b) (a ≡ b)
by_eq a b = (eqb-true a b, eq-eqb a b)

-- not below
pub by_not_lt : (a b : ℕ) → Decides (not (ltb a b)) (b ≤ a)
by_not_lt a b = (λ e. ltb-false a b (not-true _ e), λ h. ap not (le-ltb a b h))

-- below 1 is 0
pub by_none : (a : ℕ) → Decides (ltb a 1) (a ≡ 0)
by_none a = (λ e. let h = ltb-true a 1 e in omega arith, λ e. lt-ltb a 1 (omega arith))

module _ {P Q : Type 0} where
  -- either
  pub by_or : (a b : Bool) → Decides a P → Decides b Q → Decides (cond a true b) (P ⊎ Q)
  by_or true b p q = (λ e. inl (p.0 refl), λ s. refl)
  by_or false b p q = (λ e. inr (q.0 e), λ s. ⊎_elim (λ x. absurd (false≢true (p.1 x))) (λ y. q.1 y) s)

  -- both
  pub by_and : (a b : Bool) → Decides a P → Decides b Q → Decides (cond a b false) (P × Q)
  by_and true b p q = (λ e. (p.0 refl, q.0 e), λ s. q.1 s.1)
  by_and false b p q = (λ e. absurd (false≢true e), λ s. p.1 s.0)

  -- the one not, and the other
  pub by_unless : (a b : Bool) → Decides a P → Decides b Q → Decides (cond a false b) ((P → ⊥) × Q)
  by_unless true b p q = (λ e. absurd (false≢true e), λ s. absurd (s.0 (p.0 refl)))
  by_unless false b p q = (λ e. (λ h. false≢true (p.1 h), q.0 e), λ s. q.1 s.1)

  -- both, where the code asks for the first's failure
  pub by_when : (a b : Bool) → Decides a P → Decides b Q → Decides (cond (not a) false b) (P × Q)
  by_when true b p q = (λ e. (p.0 refl, q.0 e), λ s. q.1 s.1)
  by_when false b p q = (λ e. absurd (false≢true e), λ s. p.1 s.0)

  -- one clause in other words
  pub by_words : (a : Bool) → (P → Q) → (Q → P) → Decides a P → Decides a Q
  by_words a f g p = (λ e. f (p.0 e), λ q. p.1 (g q))

-- not
pub by_not : {P : Type 0} (a : Bool) → Decides a P → Decides (not a) (P → ⊥)
by_not true p = (λ e. absurd (false≢true e), λ n. absurd (n (p.0 refl)))
by_not false p = (λ e h. false≢true (p.1 h), λ n. refl)

-- where it does not hold, the test fails
pub fails : {Q : Type 0} (b : Bool) → Decides b Q → (Q → ⊥) → b ≡ false
fails true q z = absurd (z (q.0 refl))
fails false q z = refl

-- it holds or it does not
pub or_not : {Q : Type 0} (b : Bool) → Decides b Q → Q ⊎ (Q → ⊥)
or_not true q = inl (q.0 refl)
or_not false q = inr (λ h. false≢true (q.1 h))

-- a scan that finds has found something
some_is : (n : ℕ) (p : ℕ → Bool) → some_below n p ≡ true → Some n (λ i. p i ≡ true)
unfolding some_below
some_is zero p e = absurd (false≢true e)
some_is (suc n) p e = go (some_is n p) (some_below n p) refl
  where
    go : (some_below n p ≡ true → Some n (λ i. p i ≡ true)) → (b : Bool) → some_below n p ≡ b → Some (suc n) (λ i. p i ≡ true)
    go below true q = let f = below q in (f.0, le_step f.1, f.2)
    go below false q = (n, lt-suc_self n, sym (ap (λ (t : Bool). t || p n) q) ∙ e)

-- some index below n
pub by_some : (n : ℕ) (p : ℕ → Bool) (P : ℕ → Type 0) → ((i : ℕ) → Decides (p i) (P i)) → Decides (some_below n p) (Some n P)
by_some n p P d = (λ e. let f = some_is n p e in (f.0, f.1, (d f.0).0 f.2), λ s. some_found n s.0 p s.1 ((d s.0).1 s.2))

-- a search that comes to its end has found none
first_all : (n : ℕ) (p : ℕ → Bool) → first n p ≡ n → (i : ℕ) → i < n → p i ≡ false
unfolding first
first_all zero p e i h = absurd (not-suc-le-zero h)
first_all (suc n) p e i h = go (λ w l. first_all n p w i l) (ltb (first n p) n) refl (p n) refl
  where
    go : (first n p ≡ n → i < n → p i ≡ false) → (s : Bool) → ltb (first n p) n ≡ s → (t : Bool) → p n ≡ t → p i ≡ false
    go below true q t r =
        absurd
        (lt_irrefl (suc n) (subst (λ (k : ℕ). k < suc n) (sym (ap (λ (b : Bool). cond b (first n p) (cond (p n) n (suc n))) q) ∙ e) (le_step (ltb-true (first n p) n q))))
    go below false q true r =
        absurd
        (lt_irrefl n
        (subst (λ (k : ℕ). n < k) (sym (sym (ap (λ (b : Bool). cond b (first n p) (cond (p n) n (suc n))) q ∙ ap (λ (b : Bool). cond b n (suc n)) r) ∙ e)) (lt-suc_self n)))
    go below false q false r =
        ⊎_elim (λ x. subst (λ (k : ℕ). p k ≡ false) (sym x) r) (λ x. below (le_antisymm (first_within n p) (ltb-false (first n p) n q)) x)
        (eq-or-lt_of_le (le_of_suc-le-suc h))

-- a search that comes to its end: no index below n
pub by_no_first : (n : ℕ) (p : ℕ → Bool) (P : ℕ → Type 0) → ((i : ℕ) → Decides (p i) (P i)) → Decides (eqb (first n p) n) ((i : ℕ) → i < n → P i → ⊥)
by_no_first n p P d = (
  λ e i h q. true≢false (sym ((d i).1 q) ∙ first_all n p (eqb-true _ n e) i h),
  λ none. eq-eqb (first n p) n (first_of_none n p (λ i h. fails (p i) (d i) (none i h))),
)
