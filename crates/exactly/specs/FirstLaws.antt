-- A page gives at most one number: of its first clause that holds, and of the nested tests where each clause has a test.
use Rattle.std.specs.Prelude.{◌≡◌, refl, List, [], ◌∷◌, Bool, true, false, cond, not, ◌||◌, ℕ, eqb}
use Rattle.std.proofs.Common.{sym, ◌∙◌, ap, subst, inl, inr, true≢false, eqb-true, eq-eqb}
use Rattle.std.proofs.lemmas.Bool.{false≢true, not-true}
use Rattle.laws.specs.Chain.{both_passed}
use Rattle.exactly.specs.First.{Clause, FirstOr, First, At, NoneBefore, Exactly}
use Rattle.exactly.specs.Decides.{Decides, Decided, first_of, before, has, distinct}

-- ---- one number

-- any two numbers that a page gives are equal, where what stands behind it gives one
pub same_first_or : (cs : List Clause) (rest : ℕ → Type 0) → ((m n : ℕ) → rest m → rest n → m ≡ n) → (m n : ℕ) → FirstOr cs rest m → FirstOr cs rest n → m ≡ n
same_first_or [] rest same m n f g = same m n f g
same_first_or (c ∷ cs) rest same m n (inl f) (inl g) = f.1 ∙ sym g.1
same_first_or (c ∷ cs) rest same m n (inl f) (inr g) = absurd (g.0 f.0)
same_first_or (c ∷ cs) rest same m n (inr f) (inl g) = absurd (f.0 g.0)
same_first_or (c ∷ cs) rest same m n (inr f) (inr g) = same_first_or cs rest same m n f.1 g.1

-- any two numbers that a page gives are equal
pub same_first : (cs : List Clause) (m n : ℕ) → First cs m → First cs n → m ≡ n
same_first cs = same_first_or cs (λ k. k ≡ 0) (λ m n e h. e ∙ sym h)

-- where each clause has a test, the nested tests' number is the page's
pub first_or_is : (cs : List Clause) (ts : List Bool) (rest : ℕ → Type 0) (none : ℕ) → Decided cs ts → rest none → FirstOr cs rest (first_of cs ts none)
first_or_is [] ts rest none d r = r
first_or_is (c ∷ cs) [] rest none d r = absurd d
first_or_is (c ∷ cs) (t ∷ ts) rest none d r = go t d.0 (first_or_is cs ts rest none d.1 r)
  where
    go : (b : Bool) → Decides b c.holds → FirstOr cs rest (first_of cs ts none) → FirstOr (c ∷ cs) rest (cond b c.number (first_of cs ts none))
    go true d f = inl (d.0 refl, refl)
    go false d f = inr (λ h. false≢true (d.1 h), f)

-- and so where nothing stands behind the page
pub first_is : (cs : List Clause) (ts : List Bool) → Decided cs ts → First cs (first_of cs ts 0)
first_is cs ts d = first_or_is cs ts (λ k. k ≡ 0) 0 d refl

-- where no clause before number n holds and n's does, n is the first
pub first_at : (cs : List Clause) (n : ℕ) → NoneBefore n cs → At n cs → First cs n
first_at [] n b a = absurd a
first_at (c ∷ cs) n b a = go (first_at cs n) (eqb c.number n) refl b a
  where
    go : (NoneBefore n cs → At n cs → First cs n) → (t : Bool) → eqb c.number n ≡ t → cond t (Unit {0}) ((c.holds → ⊥) × NoneBefore n cs)
        → cond t c.holds (At n cs)
        → First (c ∷ cs) n
    go rest true e b a = inl (a, sym (eqb-true _ n e))
    go rest false e b a = inr (b.0, rest b.1 a)

-- where each clause has a test, whether any before number n holds has one
pub none_before : (cs : List Clause) (ts : List Bool) (n : ℕ) → Decided cs ts → Decides (not (before n cs ts)) (NoneBefore n cs)
none_before [] ts n d = (λ e. tt, λ u. refl)
none_before (c ∷ cs) [] n d = absurd d
none_before (c ∷ cs) (t ∷ ts) n d = go (eqb c.number n) t d.0 (none_before cs ts n d.1)
  where
    go : (b t : Bool) → Decides t c.holds → Decides (not (before n cs ts)) (NoneBefore n cs)
        → Decides (not (cond b false (cond t true (before n cs ts)))) (cond b (Unit {0}) ((c.holds → ⊥) × NoneBefore n cs))
    go true t own rest = (λ e. tt, λ u. refl)
    go false true own rest = (λ e. absurd (false≢true e), λ p. absurd (p.0 (own.0 refl)))
    go false false own rest = (λ e. (λ h. false≢true (own.1 h), rest.0 e), λ p. rest.1 p.1)

at_has : (cs : List Clause) (n : ℕ) → At n cs → has n cs ≡ true
at_has [] n a = absurd a
at_has (c ∷ cs) n a = go (eqb c.number n) (at_has cs n) a
  where
    go : (t : Bool) → (At n cs → has n cs ≡ true) → cond t c.holds (At n cs) → (t || has n cs) ≡ true
    go true rest a = refl
    go false rest a = rest a

-- where no two clauses have one number, the first's own clause holds
pub at_first : (cs : List Clause) (n : ℕ) → distinct cs ≡ true → (n ≡ 0 → ⊥) → First cs n → At n cs
at_first [] n d z f = z f
at_first (c ∷ cs) n d z (inl f) = subst (λ (t : Bool). cond t c.holds (At n cs)) (sym (eq-eqb _ n (sym f.1))) f.0
at_first (c ∷ cs) n d z (inr f) = go (at_first cs n two.1 z f.1) (eqb c.number n) refl
  where
    two : (not (has c.number cs) ≡ true) × (distinct cs ≡ true)
    two = both_passed (not (has c.number cs)) (distinct cs) d

    go : At n cs → (t : Bool) → eqb c.number n ≡ t → cond t c.holds (At n cs)
    go a true e = absurd (true≢false (sym (at_has cs n a) ∙ sym (ap (λ (k : ℕ). has k cs) (eqb-true _ n e)) ∙ not-true _ two.0))
    go a false e = a

-- a page's one number, and that r is what is said of it, where what is said has its number in it
pub exactly : (A : Type 0) (page : ℕ → Type 0) (said : ℕ → A) (back : A → ℕ) (r : A) (n : ℕ) → ((k : ℕ) → back (said k) ≡ k)
    → ((k m : ℕ) → page k → page m → k ≡ m)
    → page n
    → r ≡ said n
    → Exactly A page said r
exactly A page said back r n number same p e =
    record {
      when = λ k. (λ q. e ∙ ap said (same n k p q), λ q. subst page (sym (number n) ∙ ap back (sym e ∙ q) ∙ number k) p);
      some = (n, p, e);
    }
