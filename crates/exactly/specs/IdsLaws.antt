-- What an ID names, as the loader's forms share it in `block_of`, and the lists of numbers 3 and 4 agree at every ID.
use Rattle.std.specs.Prelude.{◌≡◌, refl, Bool, true, false, cond, not, ◌&&◌, ◌||◌, List, [], ◌∷◌, ℕ, eqb, Ok, Err}
use Rattle.std.proofs.Common.{sym, ◌∙◌, ap, subst, true≢false, eqb-true}
use Rattle.std.proofs.lemmas.Bool.{false≢true}
use Rattle.laws.specs.Agree.{agree}
use Rattle.laws.specs.Chain.{agreed}
use Rattle.image.specs.Rows.{Row, rows}
use Rattle.image.specs.Blocks.{table2, listed, block_in, block_of}
use Rattle.image.specs.declared.tables.NoTable.TheVariants.{NotCarried, Unknown}
use Rattle.exactly.specs.Ids.{carried_ids, carried_id, unknown_id, other_id, is_unknown, is_other, is_carried, Names}

-- ---- an ID that is in the list: computed for each
abbrev all : (ℕ → Bool) → List ℕ → Bool
all f [] = true
all f (x ∷ xs) = f x && all f xs

found : (f : ℕ → Bool) (id : ℕ) (xs : List ℕ) → all f xs ≡ true → listed id xs ≡ true → f id ≡ true
found f id [] a e = absurd (false≢true e)
found f id (x ∷ xs) a e = go (found f id xs) (f x) refl a (eqb id x) refl e
  where
    go : (all f xs ≡ true → listed id xs ≡ true → f id ≡ true) → (s : Bool) → f x ≡ s → (s && all f xs) ≡ true → (t : Bool) → eqb id x ≡ t → (t || listed id xs) ≡ true
        → f id ≡ true
    go rest false p h t q g = absurd (false≢true h)
    go rest true p h true q g = subst (λ (n : ℕ). f n ≡ true) (sym (eqb-true id x q)) p
    go rest true p h false q g = rest h g

of_ours : (id : ℕ) → carried_id id ≡ true → Names id
unfolding block_of
of_ours id e =
    record {
      unknown = agreed _ _ (found (λ n. agree (is_unknown (block_of n)) (unknown_id n)) id carried_ids refl e);
      other = agreed _ _ (found (λ n. agree (is_other (block_of n)) (other_id n)) id carried_ids refl e);
      carried = agreed _ _ (found (λ n. agree (is_carried (block_of n)) (carried_id n)) id carried_ids refl e);
    }

-- ---- and one that is not: no row has it
abbrev ids_of : List Row → List ℕ
ids_of [] = []
ids_of (r ∷ rs) = r.id ∷ ids_of rs

no_row : (id : ℕ) (rs : List Row) → listed id (ids_of rs) ≡ false → block_in id rs ≡ cond (listed id table2) (Err NotCarried) (Err Unknown)
no_row id [] e = refl
no_row id (r ∷ rs) e = go (λ h. no_row id rs h) (eqb id r.id) e
  where
    go : (listed id (ids_of rs) ≡ false → block_in id rs ≡ cond (listed id table2) (Err NotCarried) (Err Unknown)) → (t : Bool) → (t || listed id (ids_of rs)) ≡ false
        → cond t (Ok r.table) (block_in id rs) ≡ cond (listed id table2) (Err NotCarried) (Err Unknown)
    go rest true h = absurd (true≢false h)
    go rest false h = rest h

another : (id : ℕ) → carried_id id ≡ false → Names id
unfolding block_of
another id e =
    record {
      unknown = ap is_unknown names ∙ strange (listed id table2);
      other = ap is_other names ∙ two (listed id table2) ∙ ap (λ (b : Bool). listed id table2 && not b) (sym e);
      carried = ap is_carried names ∙ none (listed id table2) ∙ sym e;
    }
  where
    names : block_of id ≡ cond (listed id table2) (Err NotCarried) (Err Unknown)
    names = no_row id rows e

    strange : (t : Bool) → is_unknown (cond t (Err NotCarried) (Err Unknown)) ≡ not t
    strange true = refl
    strange false = refl

    two : (t : Bool) → is_other (cond t (Err NotCarried) (Err Unknown)) ≡ (t && not false)
    two true = refl
    two false = refl

    none : (t : Bool) → is_carried (cond t (Err NotCarried) (Err Unknown)) ≡ false
    none true = refl
    none false = refl

-- what an ID names and the lists agree at every ID
pub names : (id : ℕ) → Names id
names id = go (carried_id id) refl
  where
    go : (t : Bool) → carried_id id ≡ t → Names id
    go true e = of_ours id e
    go false e = another id e
