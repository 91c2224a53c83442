-- What holds of every table, by the rows: a computed test over them, carried to the table by its place.
use Rattle.std.specs.Prelude.{◌≡◌, refl, true, ◌&&◌, ℕ, suc, ◌+◌, ◌*◌, ◌<◌, ◌≤◌, ltb, leb, eqb}
use Rattle.std.proofs.Common.{sym, ◌∙◌, ap, subst, le_refl, le_trans, add-le-add, mul-le-mul_right, mul_comm, suc-mul, add_assoc, arith, lit<, ltb-true, leb-true, eqb-true}
use Rattle.laws.specs.Chain.{both_passed}
use Rattle.laws.specs.Scan.{every}
use Rattle.laws.specs.ScanLaws.{every_at}
use Rattle.image.specs.Rows.{rows, room, before, index_of, table_count, row_at, row_of, size_of, most_of, start_of}
use Rattle.image.specs.Layout.{entry_words, image_words, count_at, mark_at}
use Rattle.image.specs.declared.tables.Row.{Row as CodeRow}
use Rattle.image.specs.declared.tables.Table.{Table}
use Rattle.image.specs.declared.tables.Table.TheVariants.{AddressLookup, Policing, VlanLookup, Forwarding, MacConfiguration, LookupParameters, ForwardingParameters, GeneralParameters, XmiiModeParameters, Retagging}
use Rattle.image.specs.Placed.{Placed, RowOf}

pub placed : (t : Table) → Placed t
placed AddressLookup = record { inside = lit< tt; back = refl }
placed Policing = record { inside = lit< tt; back = refl }
placed VlanLookup = record { inside = lit< tt; back = refl }
placed Forwarding = record { inside = lit< tt; back = refl }
placed MacConfiguration = record { inside = lit< tt; back = refl }
placed LookupParameters = record { inside = lit< tt; back = refl }
placed ForwardingParameters = record { inside = lit< tt; back = refl }
placed GeneralParameters = record { inside = lit< tt; back = refl }
placed XmiiModeParameters = record { inside = lit< tt; back = refl }
placed Retagging = record { inside = lit< tt; back = refl }

all_places : every table_count (λ k. eqb (index_of (row_at k).table) k) ≡ true
unfolding every
all_places = refl

-- the table of a row has that row's place
pub place_of_row : (k : ℕ) → k < table_count → index_of (row_at k).table ≡ k
place_of_row k h = eqb-true _ k (every_at table_count k (λ x. eqb (index_of (row_at x).table) x) all_places h)

all_sizes : every table_count (λ k. ltb 0 (row_at k).size) ≡ true
unfolding every
all_sizes = refl

pub size_positive : (t : Table) → 0 < size_of t
size_positive t = ltb-true 0 (size_of t) (every_at table_count (index_of t) (λ k. ltb 0 (row_at k).size) all_sizes (placed t).inside)

all_rooms : every table_count (λ k. leb (before k rows + room (row_at k)) entry_words) ≡ true
unfolding every
all_rooms = refl

-- each table's room lies among the entries
pub room_inside : (t : Table) → start_of t + room (row_of t) ≤ entry_words
room_inside t = leb-true _ entry_words (every_at table_count (index_of t) (λ k. leb (before k rows + room (row_at k)) entry_words) all_rooms (placed t).inside)

all_small : every table_count (λ k. leb (row_at k).most entry_words && leb (row_at k).size entry_words) ≡ true
unfolding every
all_small = refl

small : (t : Table) → (most_of t ≤ entry_words) × (size_of t ≤ entry_words)
small t =
    let both = both_passed _ _ (every_at table_count (index_of t) (λ k. leb (row_at k).most entry_words && leb (row_at k).size entry_words) all_small (placed t).inside) in
    (leb-true _ entry_words both.0, leb-true _ entry_words both.1)

pub row_is : (t : Table) (r : CodeRow) → r.place ≡ index_of t → r.start ≡ start_of t → r.size ≡ size_of t → r.most ≡ most_of t → RowOf t r
row_is t r p b s m =
    record {
      place = p;
      start = b;
      size = s;
      most = m;
      inside = subst (λ (x : ℕ). x < table_count) (sym p) (placed t).inside;
      some = subst (λ (x : ℕ). 0 < x) (sym s) (size_positive t);
      short = subst (λ (x : ℕ). x ≤ entry_words) (sym s) (small t).1;
      few = subst (λ (x : ℕ). x ≤ entry_words) (sym m) (small t).0;
      ends = subst (λ (x : ℕ). x ≤ entry_words)
          (sym (ap (λ (x : ℕ). x + r.size * r.most) b ∙ ap (λ (x : ℕ). start_of t + x * r.most) s ∙ ap (λ (x : ℕ). start_of t + size_of t * x) m)) (room_inside t);
    }

-- an entry that a table can hold starts and ends inside the entries
pub entry_starts : (t : Table) (i : ℕ) → i ≤ most_of t → start_of t + i * size_of t ≤ entry_words
entry_starts t i h = le_trans (add-le-add (le_refl (start_of t)) (mul-le-mul_right (size_of t) h)) (subst (λ (x : ℕ). start_of t + x ≤ entry_words) (mul_comm (size_of t) (most_of t)) (room_inside t))

pub entry_ends : (t : Table) (i : ℕ) → i < most_of t → start_of t + i * size_of t + size_of t ≤ entry_words
entry_ends t i h = subst (λ (x : ℕ). x ≤ entry_words) (ap (λ (x : ℕ). start_of t + x) (suc-mul i (size_of t)) ∙ sym (add_assoc (start_of t) (i * size_of t) (size_of t))) (entry_starts t (suc i) h)

-- a count lies behind the entries and before the mark, and two tables have two places
pub count_inside : (t : Table) → count_at t < image_words
count_inside t = omega (arith, (placed t).inside)

pub count_before_mark : (t : Table) → count_at t < mark_at
count_before_mark t = omega (arith, (placed t).inside)

pub same_place : (t u : Table) → index_of t ≡ index_of u → t ≡ u
same_place t u e = sym (placed t).back ∙ ap (λ (k : ℕ). (row_at k).table) e ∙ (placed u).back
