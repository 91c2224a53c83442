-- Facts about the image that a list for each table fixes, each by induction over the rows: its length, its counts, its mark, and that it gives back each entry.
use Rattle.std.specs.Prelude.{◌≡◌, refl, List, [], ◌∷◌, ◌++◌, ℕ, zero, suc, ◌+◌, ◌-◌, ◌*◌, ◌/◌, ◌<◌, ◌≤◌}
use Rattle.std.proofs.Common.{sym, ◌∙◌, ap, subst, append_assoc, arith, drop-drop, get_or-append-add}
use native.Mathlib.Nat.{add-zero, zero-add, add-suc, suc-add, le_of_suc-le-suc, not-suc-le-zero, min-eq_left, le-add_left}
use lib.ListN.{length, get_or, take, drop, replicate, length-append, length-take, length-replicate}
use Rattle.std.proofs.lemmas.List.{take-append-le, drop-append-le}
use Rattle.std.proofs.Math.Seq.{take-append-add, drop-append-add}
use Rattle.image.specs.Rows.{Row, rows, blank, room, before, index_of, table_count, row_of, size_of, start_of}
use Rattle.image.specs.RowLaws.{placed}
use Rattle.image.specs.Layout.{padded, entries_from, counts_from, state, layout, list_of, count_of, mark_of, entry_of, entry_words, image_words}
use Rattle.image.specs.declared.tables.Table.{Table}

pub length_padded : (n : ℕ) (l : List ℕ) → length (padded n l) ≡ n
length_padded n l =
    length-take n (l ++ replicate n 0)
    ∙ min-eq_left (subst (λ (m : ℕ). n ≤ m) (sym (length-append l (replicate n 0) ∙ ap (λ (m : ℕ). length l + m) (length-replicate n 0))) (le-add_left n (length l)))

pub length_entries : (k : ℕ) (rs : List Row) (lists : List (List ℕ)) → length (entries_from k rs lists) ≡ before (length rs) rs
length_entries k [] lists = refl
length_entries k (r ∷ rs) lists =
    length-append (padded (room r) (get_or lists k [])) (entries_from (suc k) rs lists)
    ∙ ap (λ (m : ℕ). m + length (entries_from (suc k) rs lists)) (length_padded (room r) (get_or lists k []))
    ∙ ap (λ (m : ℕ). room r + m) (length_entries (suc k) rs lists)

-- the count of the row at j, counted from k
counts_at_lem : (k : ℕ) (rs : List Row) (lists : List (List ℕ)) (j : ℕ) (rest : List ℕ) → j < length rs
    → get_or (counts_from k rs lists ++ rest) j 0 ≡ length (get_or lists (k + j) []) / (get_or rs j blank).size
counts_at_lem k [] lists j rest h = absurd (not-suc-le-zero h)
counts_at_lem k (r ∷ rs) lists zero rest h = ap (λ (m : ℕ). length (get_or lists m []) / r.size) (sym (add-zero k))
counts_at_lem k (r ∷ rs) lists (suc j) rest h =
    counts_at_lem (suc k) rs lists j rest (le_of_suc-le-suc h)
    ∙ ap (λ (m : ℕ). length (get_or lists m []) / (get_or rs j blank).size) (suc-add k j ∙ sym (add-suc k j))

-- behind the rooms of the rows before it stands the room of the row at j
entries_at : (k : ℕ) (rs : List Row) (lists : List (List ℕ)) (j : ℕ) (rest : List ℕ) → j < length rs
    → drop (before j rs) (entries_from k rs lists ++ rest)
    ≡ padded (room (get_or rs j blank)) (get_or lists (k + j) []) ++ (entries_from (suc (k + j)) (drop (suc j) rs) lists ++ rest)
entries_at k [] lists j rest h = absurd (not-suc-le-zero h)
entries_at k (r ∷ rs) lists zero rest h =
    append_assoc (padded (room r) (get_or lists k [])) (entries_from (suc k) rs lists) rest
    ∙ ap (λ (m : ℕ). padded (room r) (get_or lists m []) ++ (entries_from (suc m) rs lists ++ rest)) (sym (add-zero k))
entries_at k (r ∷ rs) lists (suc j) rest h =
    ap (λ (l : List ℕ). drop (room r + before j rs) l) (append_assoc (padded (room r) (get_or lists k [])) (entries_from (suc k) rs lists) rest)
    ∙ ap (λ (m : ℕ). drop (m + before j rs) (padded (room r) (get_or lists k []) ++ (entries_from (suc k) rs lists ++ rest)))
    (sym (length_padded (room r) (get_or lists k [])))
    ∙ drop-append-add (padded (room r) (get_or lists k [])) (entries_from (suc k) rs lists ++ rest) (before j rs)
    ∙ entries_at (suc k) rs lists j rest (le_of_suc-le-suc h)
    ∙ ap (λ (m : ℕ). padded (room (get_or rs j blank)) (get_or lists m []) ++ (entries_from (suc m) (drop (suc j) rs) lists ++ rest))
    (suc-add k j ∙ sym (add-suc k j))

-- the image's own length, 11,520 words
pub length_layout : (mark : ℕ) (lists : List (List ℕ)) → length (layout mark lists) ≡ image_words
unfolding layout
length_layout mark lists =
    length-append (entries_from 0 rows lists) (counts_from 0 rows lists ++ state mark)
    ∙ ap (λ (m : ℕ). m + length (counts_from 0 rows lists ++ state mark)) (length_entries 0 rows lists)

behind : (mark : ℕ) (lists : List (List ℕ)) (j : ℕ) → get_or (layout mark lists) (entry_words + j) 0 ≡ get_or (counts_from 0 rows lists ++ state mark) j 0
unfolding layout
behind mark lists j =
    ap (λ (m : ℕ). get_or (layout mark lists) (m + j) 0) (sym (length_entries 0 rows lists))
    ∙ get_or-append-add (entries_from 0 rows lists) (counts_from 0 rows lists ++ state mark) j 0

-- a table's count is the number of its list's whole entries
pub layout_count : (mark : ℕ) (lists : List (List ℕ)) (t : Table) → count_of (layout mark lists) t ≡ length (list_of lists t) / size_of t
layout_count mark lists t =
    behind mark lists (index_of t)
    ∙ counts_at_lem 0 rows lists (index_of t) (state mark) (placed t).inside
    ∙ ap (λ (k : ℕ). length (get_or lists k []) / size_of t) (zero-add (index_of t))

pub layout_mark : (mark : ℕ) (lists : List (List ℕ)) → mark_of (layout mark lists) ≡ mark
layout_mark mark lists = behind mark lists table_count

-- a part of a list that lies in a room is there in the padded room
in_room : (n a s : ℕ) (l rest : List ℕ) → length l ≤ n → a + s ≤ length l → take s (drop a (padded n l ++ rest)) ≡ take s (drop a l)
in_room n a s l rest fits inside =
    ap (λ (x : List ℕ). take s (drop a (x ++ rest))) (padded_is n l fits)
    ∙ ap (λ (x : List ℕ). take s (drop a x)) (append_assoc l (take (n - length l) (replicate n 0)) rest)
    ∙ ap (λ (x : List ℕ). take s x) (drop-append-le a l (take (n - length l) (replicate n 0) ++ rest) (omega arith))
    ∙ take-append-le s (drop a l) (take (n - length l) (replicate n 0) ++ rest) (simp lib.ListN.length-drop (omega arith))
  where
    padded_is : (n : ℕ) (l : List ℕ) → length l ≤ n → padded n l ≡ l ++ take (n - length l) (replicate n 0)
    padded_is n l h =
        ap (λ (m : ℕ). take m (l ++ replicate n 0)) (sym (native.Mathlib.Nat.add-sub_of_le h))
        ∙ take-append-add l (replicate n 0) (n - length l)

-- an image gives back each table's entries: entry i of a table is the i-th of its list
pub layout_entry : (mark : ℕ) (lists : List (List ℕ)) (t : Table) (i : ℕ) → length (list_of lists t) ≤ room (row_of t)
    → i * size_of t + size_of t ≤ length (list_of lists t)
    → entry_of (layout mark lists) t i ≡ take (size_of t) (drop (i * size_of t) (list_of lists t))
unfolding layout
layout_entry mark lists t i fits inside =
    ap (λ (x : List ℕ). take (size_of t) x)
    (sym (drop-drop (i * size_of t) (start_of t) (layout mark lists))
    ∙ ap (λ (x : List ℕ). drop (i * size_of t) x) (entries_at 0 rows lists (index_of t) (counts_from 0 rows lists ++ state mark) (placed t).inside))
    ∙ ap
    (λ (k : ℕ). take (size_of t)
    (drop (i * size_of t)
    (padded (room (row_of t)) (get_or lists k []) ++ (entries_from (suc k) (drop (suc (index_of t)) rows) lists ++ (counts_from 0 rows lists ++ state mark)))))
    (zero-add (index_of t))
    ∙ in_room (room (row_of t)) (i * size_of t) (size_of t) (list_of lists t)
    (entries_from (suc (index_of t)) (drop (suc (index_of t)) rows) lists ++ (counts_from 0 rows lists ++ state mark))
    fits
    inside
