-- Chains of tests. A definition that answers by the first test that holds is a nested `cond`; an early return of the code meets it by
-- one `hit` at the test that held and a `pass` at each test before it. `search (needs, chain)` finds them.
use Rattle.std.specs.Prelude.{◌≡◌, refl, Bool, true, false, cond, not, ◌&&◌, ℕ, suc, ◌<◌, ◌≤◌, ltb, leb, eqb}
use Rattle.std.proofs.Common.{sym, ◌∙◌, ap, subst, true≢false, suc-ne-zero, ltb-true, ltb-false, lt-ltb, le-ltb, le-leb, eq-eqb, ne_eqb}
use Rattle.std.proofs.lemmas.Bool.{lt-leb}
use Rattle.laws.specs.Agree.{agree}

module _ {A : Type 0} where
  -- the test holds: the answer is its own
  yes_cond : (b : Bool) (x y : A) → b ≡ true → x ≡ cond b x y
  yes_cond b x y e = ap (λ (t : Bool). cond t x y) (sym e)

  -- the test fails: the answer is the next one's
  no_cond : (b : Bool) (v x y : A) → b ≡ false → v ≡ y → v ≡ cond b x y
  no_cond b v x y e p = p ∙ ap (λ (t : Bool). cond t x y) (sym e)

  -- a flag r that a call handed over, equal to the test b, held
  pub hit : (r b : Bool) (x y : A) → r ≡ b → r ≡ true → x ≡ cond b x y
  hit r b x y q e = yes_cond b x y (sym q ∙ e)

  -- a flag r, equal to the test b, failed
  pub pass : (r b : Bool) (v x y : A) → r ≡ b → r ≡ false → v ≡ y → v ≡ cond b x y
  pass r b v x y q e p = no_cond b v x y (sym q ∙ e) p

  -- a below b, tested
  pub hit_lt : (a b : ℕ) (x y : A) → a < b → x ≡ cond (ltb a b) x y
  hit_lt a b x y h = yes_cond (ltb a b) x y (lt-ltb a b h)

  pub pass_lt : (a b : ℕ) (v x y : A) → b ≤ a → v ≡ y → v ≡ cond (ltb a b) x y
  pass_lt a b v x y h p = no_cond (ltb a b) v x y (le-ltb a b h) p

  -- a at most b, tested
  pub hit_le : (a b : ℕ) (x y : A) → a ≤ b → x ≡ cond (leb a b) x y
  hit_le a b x y h = yes_cond (leb a b) x y (le-leb a b h)

  pub pass_le : (a b : ℕ) (v x y : A) → b < a → v ≡ y → v ≡ cond (leb a b) x y
  pass_le a b v x y h p = no_cond (leb a b) v x y (lt-leb a b h) p

  -- a equal to b, tested
  pub hit_eq : (a b : ℕ) (x y : A) → a ≡ b → x ≡ cond (eqb a b) x y
  hit_eq a b x y h = yes_cond (eqb a b) x y (eq-eqb a b h)

  pub pass_eq : (a b : ℕ) (v x y : A) → (a ≡ b → ⊥) → v ≡ y → v ≡ cond (eqb a b) x y
  pass_eq a b v x y h p = no_cond (eqb a b) v x y (ne_eqb a b h) p

  -- a different from b, tested
  pub hit_ne : (a b : ℕ) (x y : A) → (a ≡ b → ⊥) → x ≡ cond (not (eqb a b)) x y
  hit_ne a b x y h = yes_cond (not (eqb a b)) x y (ap not (ne_eqb a b h))

  pub pass_ne : (a b : ℕ) (v x y : A) → a ≡ b → v ≡ y → v ≡ cond (not (eqb a b)) x y
  pass_ne a b v x y h p = no_cond (not (eqb a b)) v x y (ap not (eq-eqb a b h)) p

-- two tests that hold together and fail together
pub together : (a b c d : ℕ) → (a < b → c < d) → (b ≤ a → d ≤ c) → ltb a b ≡ ltb c d
together a b c d f g = go (ltb a b) refl
  where
    go : (t : Bool) → ltb a b ≡ t → t ≡ ltb c d
    go true e = sym (lt-ltb c d (f (ltb-true a b e)))
    go false e = sym (le-ltb c d (g (ltb-false a b e)))

pub agreed : (a b : Bool) → agree a b ≡ true → a ≡ b
agreed true b e = sym e
agreed false true e = e
agreed false false e = refl

-- a chain of refusals that refuses nothing: its first test failed, and so did the rest
pub none_first : (b y : Bool) → cond b true y ≡ false → b ≡ false
none_first true y e = e
none_first false y e = refl

pub none_rest : (b y : Bool) → cond b true y ≡ false → y ≡ false
none_rest true y e = absurd (true≢false e)
none_rest false y e = e

-- A number r that a call handed over, equal to n, was tested against 0: what a definition says that asks n first.
module _ {A : Type 0} where
  pub at_zero : (r n : ℕ) (v x y : A) → r ≡ n → r ≡ 0 → v ≡ x → v ≡ cond (eqb n 0) x y
  at_zero r n v x y e z p = p ∙ ap (λ (t : Bool). cond t x y) (sym (eq-eqb n 0 (sym e ∙ z)))

  pub not_zero : (r n : ℕ) (v x y : A) → r ≡ n → (r ≡ 0 → ⊥) → v ≡ y → v ≡ cond (eqb n 0) x y
  not_zero r n v x y e z p = p ∙ ap (λ (t : Bool). cond t x y) (sym (ne_eqb n 0 (λ q. z (e ∙ q))))

-- a chain of numbers that comes to 0: its first test failed, and the rest comes to 0
pub zero_first : (t : Bool) (n y : ℕ) → cond t (suc n) y ≡ 0 → t ≡ false
zero_first true n y e = absurd (suc-ne-zero n e)
zero_first false n y e = refl

pub zero_rest : (t : Bool) (n y : ℕ) → cond t (suc n) y ≡ 0 → y ≡ 0
zero_rest true n y e = absurd (suc-ne-zero n e)
zero_rest false n y e = e

-- two tests that passed as one passed each
pub both_passed : (a b : Bool) → (a && b) ≡ true → (a ≡ true) × (b ≡ true)
both_passed true b e = (refl, e)
both_passed false b e = absurd (true≢false (sym e))

-- A test of a number r that a call handed over is a test of what the call says r is.
pub lt_of : (a b r : ℕ) → r ≡ b → a < r → a < b
lt_of a b r e h = subst (λ (k : ℕ). a < k) e h

pub le_of : (a b r : ℕ) → r ≡ b → a ≤ r → a ≤ b
le_of a b r e h = subst (λ (k : ℕ). a ≤ k) e h

pub of_lt : (a b r : ℕ) → r ≡ b → r < a → b < a
of_lt a b r e h = subst (λ (k : ℕ). k < a) e h

pub of_le : (a b r : ℕ) → r ≡ b → r ≤ a → b ≤ a
of_le a b r e h = subst (λ (k : ℕ). k ≤ a) e h

pub of_eq : (a b r : ℕ) → r ≡ b → r ≡ a → b ≡ a
of_eq a b r e h = sym e ∙ h

pub of_ne : (a b r : ℕ) → r ≡ b → (r ≡ a → ⊥) → b ≡ a → ⊥
of_ne a b r e h q = h (e ∙ q)

-- the laws of a chain whose tests are all flags that calls handed over: fewer ways to try, so a longer chain
pub ruleset flags = (hit, pass)

-- every law of a chain, for `search`
pub ruleset chain = (hit, pass, hit_lt, pass_lt, hit_le, pass_le, hit_eq, pass_eq, hit_ne, pass_ne)

-- the laws that carry a test over to what a call's number is
pub ruleset carried = (lt_of, le_of, of_lt, of_le, of_eq, of_ne)
