-- Laws of a block's header: what one that is not refused has.
use Rattle.std.specs.Prelude.{◌≡◌, refl, Bool, true, false, cond, not, ℕ, ◌+◌, ◌*◌, ◌/◌, ◌%◌, ◌≤◌, ltb, eqb, Ok, Err}
use Rattle.std.proofs.Common.{sym, ◌∙◌, ap, subst, add-zero, add-mul, mul-le-mul_right, div-add-mod', arith, ltb-false, le-ltb, eqb-true, eq-eqb}
use Rattle.std.proofs.lemmas.Bool.{not-false}
use Rattle.image.specs.Rows.{size_of, most_of}
use Rattle.image.specs.declared.tables.Table.{Table}
use Rattle.image.specs.Blocks.{Block}
use Rattle.image.specs.declared.tables.NoTable.TheVariants.{NotCarried, Unknown}
use Rattle.stream.specs.Header.{Header, Wrong, Right, header_of, wrong_passes}
use Rattle.stream.specs.Passes.{Passes, Named}

-- the table of a header, where it has one
table_in : Table → Header → Table
table_in t (Wrong n) = t
table_in t (Right u) = u

right_is : (t u : Table) → Right t ≡ Right u → t ≡ u
unfolding table_in
right_is t u e = ap (table_in t) e

not_right : (n : ℕ) (t : Table) → Wrong n ≡ Right t → ⊥
not_right n t e = let z : ◌≡◌ {A = ℕ} 0 1 = cc in omega arith

pub right : (b : Block) (n : ℕ) (had : Table → ℕ) (t : Table) → header_of b n had ≡ Right t → Named b n had t
right (Err Unknown) n had t e = absurd (not_right 3 t e)
right (Err NotCarried) n had t e = absurd (not_right 4 t e)
right (Ok u) n had t e = go (not (eqb (n % size_of u) 0)) (ltb (most_of u) (had u + n / size_of u)) refl refl e
  where
    go : (x y : Bool) → not (eqb (n % size_of u) 0) ≡ x → ltb (most_of u) (had u + n / size_of u) ≡ y → cond x (Wrong 5) (cond y (Wrong 6) (Right u)) ≡ Right t
        → Named (Ok u) n had t
    go true y p q e = absurd (not_right 5 t e)
    go false true p q e = absurd (not_right 6 t e)
    go false false p q e =
        subst (λ (v : Table). Named (Ok u) n had v) (right_is u t e)
        (record { named = refl; passes = record { whole = eqb-true _ 0 (not-false _ p); fits = ltb-false _ _ q } })

pub not_wrong : (t : Table) (n : ℕ) (had : Table → ℕ) → Passes t n (had t) → header_of (Ok t) n had ≡ Right t
not_wrong t n had ok =
    ap (λ (x : Bool). cond x (Wrong 5) (cond (ltb (most_of t) (had t + n / size_of t)) (Wrong 6) (Right t))) (ap not (eq-eqb (n % size_of t) 0 ok.whole))
    ∙ ap (λ (x : Bool). cond x (Wrong 6) (Right t)) (le-ltb (most_of t) (had t + n / size_of t) ok.fits)

-- the tests ask only how many entries the tables had
pub same_header : (b : Block) (n : ℕ) (f g : Table → ℕ) → ((t : Table) → f t ≡ g t) → header_of b n f ≡ header_of b n g
same_header (Err Unknown) n f g same = refl
same_header (Err NotCarried) n f g same = refl
same_header (Ok t) n f g same = ap (λ (x : ℕ). cond (not (eqb (n % size_of t) 0)) (Wrong 5) (cond (ltb (most_of t) (x + n / size_of t)) (Wrong 6) (Right t))) (same t)

-- a length of whole entries
pub whole_entries : (n s : ℕ) → n % s ≡ 0 → n ≡ n / s * s
whole_entries n s e = sym (ap (λ (x : ℕ). n / s * s + x) (sym e) ∙ div-add-mod' n s) ∙ add-zero _

-- the table has room for what it had and the block's words
pub passes_room : (t : Table) (n had : ℕ) → Passes t n had → had * size_of t + n ≤ most_of t * size_of t
passes_room t n had ok =
    subst (λ (x : ℕ). had * size_of t + x ≤ most_of t * size_of t) (sym (whole_entries n (size_of t) ok.whole))
    (subst (λ (x : ℕ). x ≤ most_of t * size_of t) (add-mul had (n / size_of t) (size_of t)) (mul-le-mul_right (size_of t) ok.fits))

-- a header is refused with 3 to 6
pub header_passes : (p : ℕ → Bool) (b : Block) (n : ℕ) (had : Table → ℕ) → p 3 ≡ true → p 4 ≡ true → p 5 ≡ true → p 6 ≡ true
    → wrong_passes p (header_of b n had) ≡ true
header_passes p (Err Unknown) n had three four five six = three
header_passes p (Err NotCarried) n had three four five six = four
header_passes p (Ok t) n had three four five six = go (not (eqb (n % size_of t) 0)) (ltb (most_of t) (had t + n / size_of t))
  where
    go : (x y : Bool) → wrong_passes p (cond x (Wrong 5) (cond y (Wrong 6) (Right t))) ≡ true
    go true y = five
    go false true = six
    go false false = refl
