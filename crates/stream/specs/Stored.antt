-- One block's words, stored behind its table's earlier ones, with the count raised: the image of the lists with these words put to them.
use Rattle.std.specs.Prelude.{◌≡◌, refl, ◌≢◌, List, [], ◌∷◌, ◌++◌, ℕ, zero, suc, ◌+◌, ◌-◌, ◌/◌, ◌<◌, ◌≤◌, length, get_or, take, set, replicate}
use Rattle.std.proofs.Common.{sym, ◌∙◌, ap, subst, append_assoc, arith, length-append, get_or-set_same, get_or-set_other}
use native.Mathlib.Nat.{add-zero, zero-add, add-suc, suc-add, le_of_suc-le-suc, not-suc-le-zero, add-sub_of_le, sub-add-eq, sub-zero, suc-sub-suc, le_refl, lt_irrefl, le_of_suc-le}
use Rattle.std.proofs.lemmas.List.Edits.{sets}
use Rattle.std.proofs.Math.Seq.{take-append-add}
use Rattle.image.specs.Rows.{Row, rows, blank, room, before, index_of, table_count, row_of, size_of, start_of}
use Rattle.image.specs.RowLaws.{placed}
use Rattle.image.specs.Layout.{padded, entries_from, counts_from, state, layout, list_of, counted}
use Rattle.image.specs.Images.{length_padded, length_entries}
use Rattle.image.specs.declared.tables.Table.{Table}
use Rattle.stream.specs.Paper.{put}

-- ---- stores behind a part that they leave alone
sets_suc : (x : ℕ) (l : List ℕ) (i : ℕ) (vs : List ℕ) → sets (x ∷ l) (suc i) vs ≡ x ∷ sets l i vs
sets_suc x l i [] = refl
sets_suc x l i (v ∷ vs) = sets_suc x (set l i v) (suc i) vs

pub sets_behind : (xs ys : List ℕ) (i : ℕ) (vs : List ℕ) → sets (xs ++ ys) (length xs + i) vs ≡ xs ++ sets ys i vs
sets_behind [] ys i vs = ap (λ (k : ℕ). sets ys k vs) (zero-add i)
sets_behind (x ∷ xs) ys i vs =
    ap (λ (k : ℕ). sets (x ∷ (xs ++ ys)) k vs) (suc-add (length xs) i)
    ∙ sets_suc x (xs ++ ys) (length xs + i) vs
    ∙ ap (λ (l : List ℕ). x ∷ l) (sets_behind xs ys i vs)

-- ---- a table's room
take_zeros : (m n : ℕ) → m ≤ n → take {A = ℕ} m (replicate n 0) ≡ replicate m 0
take_zeros zero n h = refl
take_zeros (suc m) zero h = absurd (not-suc-le-zero h)
take_zeros (suc m) (suc n) h = ap (λ (l : List ℕ). 0 ∷ l) (take_zeros m n (le_of_suc-le-suc h))

padded_is : (n : ℕ) (l : List ℕ) → length l ≤ n → padded n l ≡ l ++ replicate (n - length l) 0
padded_is n l h =
    ap (λ (m : ℕ). take m (l ++ replicate n 0)) (sym (add-sub_of_le h))
    ∙ take-append-add l (replicate n 0) (n - length l)
    ∙ ap (λ (z : List ℕ). l ++ z) (take_zeros (n - length l) n (omega arith))

over_zeros : (ds : List ℕ) (m : ℕ) (rest : List ℕ) → length ds ≤ m
    → sets (replicate m 0 ++ rest) 0 ds ≡ ds ++ (replicate (m - length ds) 0 ++ rest)
over_zeros [] m rest h = ap (λ (k : ℕ). replicate k 0 ++ rest) (sym (sub-zero m))
over_zeros (d ∷ ds) zero rest h = absurd (not-suc-le-zero h)
over_zeros (d ∷ ds) (suc m) rest h =
    sets_suc d (replicate m 0 ++ rest) 0 ds
    ∙ ap (λ (l : List ℕ). d ∷ l)
    (over_zeros ds m rest (le_of_suc-le-suc h) ∙ ap (λ (k : ℕ). ds ++ (replicate k 0 ++ rest)) (sym (suc-sub-suc m (length ds))))

room_put : (n : ℕ) (l ds rest : List ℕ) → length l + length ds ≤ n
    → sets (padded n l ++ rest) (length l) ds ≡ padded n (l ++ ds) ++ rest
room_put n l ds rest h =
    ap (λ (x : List ℕ). sets (x ++ rest) (length l) ds) (padded_is n l (omega arith))
    ∙ ap (λ (x : List ℕ). sets x (length l) ds) (append_assoc l (replicate (n - length l) 0) rest)
    ∙ ap (λ (k : ℕ). sets (l ++ (replicate (n - length l) 0 ++ rest)) k ds) (sym (add-zero (length l)))
    ∙ sets_behind l (replicate (n - length l) 0 ++ rest) 0 ds
    ∙ ap (λ (x : List ℕ). l ++ x) (over_zeros ds (n - length l) rest (omega arith))
    ∙ sym (append_assoc l ds (replicate (n - length l - length ds) 0 ++ rest))
    ∙ sym (append_assoc (l ++ ds) (replicate (n - length l - length ds) 0) rest)
    ∙ ap (λ (k : ℕ). l ++ ds ++ replicate k 0 ++ rest)
    (sym (sub-add-eq n (length l) (length ds)) ∙ ap (λ (k : ℕ). n - k) (sym (length-append l ds)))
    ∙ ap (λ (x : List ℕ). x ++ rest) (sym (padded_is n (l ++ ds) (subst (λ (k : ℕ). k ≤ n) (sym (length-append l ds)) h)))

-- ---- what putting words to one row's list leaves of the lists
abbrev put_at : List (List ℕ) → ℕ → List ℕ → List (List ℕ)
put_at lists k words = set lists k (get_or lists k [] ++ words)

other_at : (lists : List (List ℕ)) (k : ℕ) (ds : List ℕ) (i : ℕ) → i ≢ k → get_or (put_at lists k ds) i [] ≡ get_or lists i []
other_at lists k ds i h = get_or-set_other lists k i (get_or lists k [] ++ ds) [] h

same_at : (lists : List (List ℕ)) (k : ℕ) (ds : List ℕ) → k < length lists → get_or (put_at lists k ds) k [] ≡ get_or lists k [] ++ ds
same_at lists k ds h = get_or-set_same lists k (get_or lists k [] ++ ds) [] h

-- by the table
pub put_other : (lists : List (List ℕ)) (t : Table) (ds : List ℕ) (u : Table) → index_of u ≢ index_of t → list_of (put lists t ds) u ≡ list_of lists u
put_other lists t ds u h = other_at lists (index_of t) ds (index_of u) h

pub put_same : (lists : List (List ℕ)) (t : Table) (ds : List ℕ) → length lists ≡ table_count → list_of (put lists t ds) t ≡ list_of lists t ++ ds
put_same lists t ds e = same_at lists (index_of t) ds (subst (λ (n : ℕ). index_of t < n) (sym e) (placed t).inside)

entries_same : (k : ℕ) (rs : List Row) (a b : List (List ℕ)) → ((i : ℕ) → k ≤ i → get_or a i [] ≡ get_or b i [])
    → entries_from k rs a ≡ entries_from k rs b
entries_same k [] a b h = refl
entries_same k (r ∷ rs) a b h =
    ap (λ (l : List ℕ). padded (room r) l ++ entries_from (suc k) rs a) (h k (le_refl k))
    ∙ ap (λ (l : List ℕ). padded (room r) (get_or b k []) ++ l) (entries_same (suc k) rs a b (λ i q. h i (le_of_suc-le q)))

counts_same : (k : ℕ) (rs : List Row) (a b : List (List ℕ)) → ((i : ℕ) → k ≤ i → get_or a i [] ≡ get_or b i [])
    → counts_from k rs a ≡ counts_from k rs b
counts_same k [] a b h = refl
counts_same k (r ∷ rs) a b h =
    ap (λ (l : List ℕ). length l / r.size ∷ counts_from (suc k) rs a) (h k (le_refl k))
    ∙ ap (λ (l : List ℕ). length (get_or b k []) / r.size ∷ l) (counts_same (suc k) rs a b (λ i q. h i (le_of_suc-le q)))

-- the tables behind table m are as they were
behind : (lists : List (List ℕ)) (m : ℕ) (ds : List ℕ) (i : ℕ) → suc m ≤ i → get_or lists i [] ≡ get_or (put_at lists m ds) i []
behind lists m ds i h = sym (other_at lists m ds i (λ e. lt_irrefl m (subst (λ (k : ℕ). m < k) e h)))

-- a table before table m is as it was
ahead : (lists : List (List ℕ)) (k j m : ℕ) (ds : List ℕ) → k + suc j ≡ m → get_or lists k [] ≡ get_or (put_at lists m ds) k []
ahead lists k j m ds e = sym (other_at lists m ds k (λ q. lt_irrefl k (subst (λ (x : ℕ). k < x) (e ∙ sym q) (omega arith))))

-- ---- the entries, and the counts, of the rows from k on, with words put to table m = k + j
entries_put : (k : ℕ) (rs : List Row) (lists : List (List ℕ)) (j m : ℕ) (ds rest : List ℕ) → k + j ≡ m → j < length rs → m < length lists
    → length (get_or lists m []) + length ds ≤ room (get_or rs j blank)
    → sets (entries_from k rs lists ++ rest) (before j rs + length (get_or lists m [])) ds ≡ entries_from k rs (put_at lists m ds) ++ rest
entries_put k [] lists j m ds rest e h q fits = absurd (not-suc-le-zero h)
entries_put k (r ∷ rs) lists zero m ds rest e h q fits =
    subst (λ (x : ℕ). sets (entries_from x (r ∷ rs) lists ++ rest) (0 + length (get_or lists m [])) ds ≡ entries_from x (r ∷ rs) (put_at lists m ds) ++ rest)
    (sym e ∙ add-zero k)
    (ap (λ (i : ℕ). sets (entries_from m (r ∷ rs) lists ++ rest) i ds) (zero-add (length (get_or lists m [])))
    ∙ ap (λ (l : List ℕ). sets l (length (get_or lists m [])) ds) (append_assoc (padded (room r) (get_or lists m [])) (entries_from (suc m) rs lists) rest)
    ∙ room_put (room r) (get_or lists m []) ds (entries_from (suc m) rs lists ++ rest) fits
    ∙ sym (append_assoc (padded (room r) (get_or lists m [] ++ ds)) (entries_from (suc m) rs lists) rest)
    ∙ ap (λ (l : List ℕ). padded (room r) l ++ entries_from (suc m) rs lists ++ rest) (sym (same_at lists m ds q))
    ∙ ap (λ (l : List ℕ). padded (room r) (get_or (put_at lists m ds) m []) ++ l ++ rest)
    (entries_same (suc m) rs lists (put_at lists m ds) (behind lists m ds)))
entries_put k (r ∷ rs) lists (suc j) m ds rest e h q fits =
    let p : ℕ = before j rs + length (get_or lists m []) in
    ap (λ (i : ℕ). sets (entries_from k (r ∷ rs) lists ++ rest) i ds) (native.Mathlib.Nat.add_assoc (room r) (before j rs) (length (get_or lists m [])))
    ∙ ap (λ (l : List ℕ). sets l (room r + p) ds) (append_assoc (padded (room r) (get_or lists k [])) (entries_from (suc k) rs lists) rest)
    ∙ ap (λ (i : ℕ). sets (padded (room r) (get_or lists k []) ++ (entries_from (suc k) rs lists ++ rest)) (i + p) ds)
    (sym (length_padded (room r) (get_or lists k [])))
    ∙ sets_behind (padded (room r) (get_or lists k [])) (entries_from (suc k) rs lists ++ rest) p ds
    ∙ ap (λ (l : List ℕ). padded (room r) (get_or lists k []) ++ l)
    (entries_put (suc k) rs lists j m ds rest (suc-add k j ∙ sym (add-suc k j) ∙ e) (le_of_suc-le-suc h) q fits)
    ∙ sym (append_assoc (padded (room r) (get_or lists k [])) (entries_from (suc k) rs (put_at lists m ds)) rest)
    ∙ ap (λ (l : List ℕ). padded (room r) l ++ entries_from (suc k) rs (put_at lists m ds) ++ rest) (ahead lists k j m ds e)

counts_put : (k : ℕ) (rs : List Row) (lists : List (List ℕ)) (j m : ℕ) (ds rest : List ℕ) → k + j ≡ m → j < length rs → m < length lists
    → set (counts_from k rs lists ++ rest) j (length (get_or lists m [] ++ ds) / (get_or rs j blank).size) ≡ counts_from k rs (put_at lists m ds) ++ rest
counts_put k [] lists j m ds rest e h q = absurd (not-suc-le-zero h)
counts_put k (r ∷ rs) lists zero m ds rest e h q =
    subst
    (λ (x : ℕ). set (counts_from x (r ∷ rs) lists ++ rest) 0 (length (get_or lists m [] ++ ds) / r.size) ≡ counts_from x (r ∷ rs) (put_at lists m ds) ++ rest)
    (sym e ∙ add-zero k)
    (ap (λ (l : List ℕ). length l / r.size ∷ (counts_from (suc m) rs lists ++ rest)) (sym (same_at lists m ds q))
    ∙ ap (λ (l : List ℕ). length (get_or (put_at lists m ds) m []) / r.size ∷ (l ++ rest))
    (counts_same (suc m) rs lists (put_at lists m ds) (behind lists m ds)))
counts_put k (r ∷ rs) lists (suc j) m ds rest e h q =
    ap (λ (l : List ℕ). length (get_or lists k []) / r.size ∷ l)
    (counts_put (suc k) rs lists j m ds rest (suc-add k j ∙ sym (add-suc k j) ∙ e) (le_of_suc-le-suc h) q)
    ∙ ap (λ (l : List ℕ). length l / r.size ∷ (counts_from (suc k) rs (put_at lists m ds) ++ rest)) (ahead lists k j m ds e)

-- ---- the whole image
abbrev tail : ℕ → List (List ℕ) → List ℕ
tail mark lists = counts_from 0 rows lists ++ state mark

pub layout_put : (mark : ℕ) (lists : List (List ℕ)) (t : Table) (ds rest : List ℕ) → length lists ≡ table_count
    → length (list_of lists t) + length ds ≤ room (row_of t)
    → counted (sets (layout mark lists ++ rest) (start_of t + length (list_of lists t)) ds) t (length (list_of lists t ++ ds) / size_of t)
    ≡ layout mark (put lists t ds) ++ rest
unfolding layout
layout_put mark lists t ds rest all fits =
    ap (λ (l : List ℕ). counted (sets l (start_of t + length (list_of lists t)) ds) t v) (append_assoc (entries_from 0 rows lists) (tail mark lists) rest)
    ∙ ap (λ (l : List ℕ). counted l t v) (entries_put 0 rows lists k k ds (tail mark lists ++ rest) (zero-add k) h h' fits)
    ∙ ap (λ (n : ℕ). set (entries_from 0 rows lists' ++ (tail mark lists ++ rest)) (n + k) v) (sym (length_entries 0 rows lists'))
    ∙ sets_behind (entries_from 0 rows lists') (tail mark lists ++ rest) k (v ∷ [])
    ∙ ap (λ (l : List ℕ). entries_from 0 rows lists' ++ set l k v) (append_assoc (counts_from 0 rows lists) (state mark) rest)
    ∙ ap (λ (l : List ℕ). entries_from 0 rows lists' ++ l) (counts_put 0 rows lists k k ds (state mark ++ rest) (zero-add k) h h')
    ∙ ap (λ (l : List ℕ). entries_from 0 rows lists' ++ l) (sym (append_assoc (counts_from 0 rows lists') (state mark) rest))
    ∙ sym (append_assoc (entries_from 0 rows lists') (tail mark lists') rest)
  where
    k : ℕ
    k = index_of t

    lists' : List (List ℕ)
    lists' = put lists t ds

    v : ℕ
    v = length (list_of lists t ++ ds) / size_of t

    h : index_of t < table_count
    h = (placed t).inside

    h' : index_of t < length lists
    h' = subst (λ (n : ℕ). index_of t < n) (sym all) h
