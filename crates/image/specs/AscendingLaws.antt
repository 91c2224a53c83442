-- The rows in ascending block ID are all the rows, and each ID is below the next.
use Rattle.std.specs.Prelude.{◌≡◌, refl, Bool, true, cond, ◌&&◌, ℕ, ◌+◌, ◌<◌, ltb, eqb, length, get_or}
use Rattle.std.proofs.Common.{sym, ◌∙◌, ap, arith, ltb-true, lt-ltb, eqb-true}
use Rattle.laws.specs.Chain.{both_passed}
use Rattle.laws.specs.Scan.{every, first}
use Rattle.laws.specs.ScanLaws.{every_at}
use Rattle.image.specs.Rows.{blank, index_of, table_count}
use Rattle.image.specs.RowLaws.{placed, same_place}
use Rattle.image.specs.Ascending.{ascending, Ascends}

-- where the row at a place in `rows` stands among them
abbrev place_in : ℕ → ℕ
place_in j = first (length ascending) (λ k. eqb (index_of (get_or ascending k blank).table) j)

all_below : every table_count (λ k. cond (ltb (k + 1) table_count) (ltb (get_or ascending k blank).id (get_or ascending (k + 1) blank).id) true) ≡ true
unfolding every
all_below = refl

all_there : every table_count (λ j. ltb (place_in j) (length ascending) && eqb (index_of (get_or ascending (place_in j) blank).table) j) ≡ true
unfolding every first
all_there = refl

pub ascending_ascends : Ascends ascending
ascending_ascends =
    record {
      ids = λ k h.
          ltb-true _ _
          (sym (ap (λ (t : Bool). cond t (ltb (get_or ascending k blank).id (get_or ascending (k + 1) blank).id) true) (lt-ltb (k + 1) table_count h))
          ∙ every_at table_count k (λ i. cond (ltb (i + 1) table_count) (ltb (get_or ascending i blank).id (get_or ascending (i + 1) blank).id) true) all_below (less k h));
      many = refl;
      all = λ t.
          let there = both_passed _ _ (every_at table_count (index_of t) (λ j. ltb (place_in j) (length ascending) && eqb (index_of (get_or ascending (place_in j) blank).table) j) all_there (placed t).inside) in
          (place_in (index_of t), ltb-true _ _ there.0, same_place _ t (eqb-true _ _ there.1));
    }
  where
    less : (k : ℕ) → k + 1 < table_count → k < table_count
    less k h = omega arith
