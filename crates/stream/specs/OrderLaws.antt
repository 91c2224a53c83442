-- Every order: blocks with right checksums, cut between entries and laid in any order, pass with exactly the lists that they bring.
use Rattle.std.specs.Prelude.{◌≡◌, refl, Bool, cond, not, List, [], ◌∷◌, ◌++◌, ℕ, zero, suc, ◌+◌, ◌*◌, ◌/◌, ◌<◌, ◌≤◌, eqb, length, get_or, take, drop, Ok, Err}
use Rattle.std.proofs.Common.{sym, ◌∙◌, ap, subst, append_assoc, append-nil, zero-add, le_refl, le_trans, lt_irrefl, le_of_suc-le-suc, not-suc-le-zero, mul_comm, add-mul, le_of_mul-le-mul_right, add_assoc, arith, length-append, length-set, take_at, drop_at, ext_get_or, eq-eqb, ne_eqb}
use Rattle.std.proofs.Math.Decide.{ℕ_discrete}
use Rattle.laws.specs.Chain.{pass}
use Rattle.crc.specs.Crc.{checksum}
use Rattle.image.specs.Rows.{index_of, table_count, row_at, row_of, room, size_of, most_of}
use Rattle.image.specs.RowLaws.{size_positive, same_place, place_of_row}
use Rattle.image.specs.Layout.{list_of}
use Rattle.image.specs.declared.tables.Table.{Table}
use Rattle.image.specs.Blocks.{Block}
use Rattle.image.specs.declared.tables.NoTable.TheVariants.{NotCarried, Unknown}
use Rattle.stream.specs.Header.{Header, Right, device, length_of, header_of}
use Rattle.stream.specs.Passes.{Passes}
use Rattle.stream.specs.Headers.{not_wrong, whole_entries}
use Rattle.stream.specs.Paper.{Framed, refused, passed, none, put, had, headed_by, checked, blocks, framed}
use Rattle.stream.specs.Stored.{put_same, put_other}
use Rattle.stream.specs.Bridge.{Sound}
use Rattle.stream.specs.BridgeLaws.{nothing, sound_none, sound_put}
use Rattle.stream.specs.Order.{Piece, block_in, sent, laid, streamed, Proper, All, is_of, brings, put_to, after}

-- ---- what a block brings to its own table, and to another
brings_own : (p : Piece) (ps : List Piece) (t : Table) → block_in p ≡ Ok t → brings t (p ∷ ps) ≡ p.words ++ brings t ps
unfolding brings
brings_own p ps t e =
    ap (λ (b : Block). cond (is_of t b) (p.words ++ brings t ps) (brings t ps)) e
    ∙ ap (λ (x : Bool). cond x (p.words ++ brings t ps) (brings t ps)) (eq-eqb (index_of t) (index_of t) refl)

brings_other : (p : Piece) (ps : List Piece) (t u : Table) → block_in p ≡ Ok t → (index_of u ≡ index_of t → ⊥) → brings u (p ∷ ps) ≡ brings u ps
unfolding brings
brings_other p ps t u e ne =
    ap (λ (b : Block). cond (is_of u b) (p.words ++ brings u ps) (brings u ps)) e
    ∙ ap (λ (x : Bool). cond x (p.words ++ brings u ps) (brings u ps)) (ne_eqb (index_of u) (index_of t) ne)

-- room for a block among what is still to come
abbrev Fits : List (List ℕ) → List Piece → Type 0
Fits lists ps = (t : Table) → length (list_of lists t) + length (brings t ps) ≤ room (row_of t)

fits_passes : (lists : List (List ℕ)) (p : Piece) (ps : List Piece) → Sound lists → (ok : Proper p) → Fits lists (p ∷ ps)
    → Passes ok.table (length p.words) (had lists ok.table)
fits_passes lists p ps sound ok fits =
    record {
      whole = ok.whole;
      fits = le_of_mul-le-mul_right
          (subst (λ (x : ℕ). x ≤ most_of t * size_of t)
          (sym (add-mul (had lists t) (length p.words / size_of t) (size_of t)
          ∙ ap (λ (x : ℕ). x + length p.words / size_of t * size_of t) (sound.whole t)
          ∙ ap (λ (x : ℕ). length (list_of lists t) + x) (sym (whole_entries (length p.words) (size_of t) ok.whole))))
          (subst (λ (x : ℕ). length (list_of lists t) + length p.words ≤ x) (mul_comm (size_of t) (most_of t)) within))
          (size_positive t);
    }
  where
    t : Table
    t = ok.table

    within : length (list_of lists t) + length p.words ≤ room (row_of t)
    within =
        le_trans
        (omega (arith, length-append p.words (brings t ps)))
        (subst (λ (l : List ℕ). length (list_of lists t) + length l ≤ room (row_of t)) (brings_own p ps t ok.named) (fits t))

fits_on : (lists : List (List ℕ)) (p : Piece) (ps : List Piece) → Sound lists → (ok : Proper p) → Fits lists (p ∷ ps) → Fits (put lists ok.table p.words) ps
fits_on lists p ps sound ok fits u = decide (ℕ_discrete (index_of u) (index_of t))
  where
    t : Table
    t = ok.table

    decide : Dec (index_of u ≡ index_of t) → length (list_of (put lists t p.words) u) + length (brings u ps) ≤ room (row_of u)
    decide (yes e) =
        subst (λ (x : Table). length (list_of (put lists t p.words) x) + length (brings x ps) ≤ room (row_of x)) (sym (same_place u t e))
        (subst (λ (l : List ℕ). length l + length (brings t ps) ≤ room (row_of t)) (sym (put_same lists t p.words sound.all))
        (subst (λ (x : ℕ). x ≤ room (row_of t))
        (ap (λ (x : ℕ). length (list_of lists t) + x) (ap length (brings_own p ps t ok.named) ∙ length-append p.words (brings t ps))
        ∙ sym (add_assoc (length (list_of lists t)) (length p.words) (length (brings t ps)))
        ∙ ap (λ (x : ℕ). x + length (brings t ps)) (sym (length-append (list_of lists t) p.words)))
        (fits t)))
    decide (no ne) =
        subst (λ (l : List ℕ). length l + length (brings u ps) ≤ room (row_of u)) (sym (put_other lists t p.words u ne))
        (subst (λ (l : List ℕ). length (list_of lists u) + length l ≤ room (row_of u)) (brings_other p ps t u ok.named ne) (fits u))

-- ---- one block passes
block_passes : (turns : ℕ) (before : List ℕ) (lists : List (List ℕ)) (p : Piece) (rest : List ℕ) → (ok : Proper p)
    → Passes ok.table (length p.words) (had lists ok.table)
    → blocks (suc turns) before lists (sent p ++ rest) ≡ blocks turns (before ++ sent p) (put lists ok.table p.words) rest
unfolding blocks
block_passes turns before lists p rest ok passes =
    sym
    (pass (eqb n 0) (eqb n 0) on _ _ refl (ne_eqb n 0 (λ e. lt_irrefl 0 (subst (λ (x : ℕ). 0 < x) (sym ok.told ∙ e) ok.some)))
    (pass (not (eqb h2 h2)) (not (eqb h2 h2)) on (refused 2) _ refl (ap not (eq-eqb h2 h2 refl)) (sym (ap (λ (x : Header). headed_by x follow) header ∙ data_passes))))
  where
    n : ℕ
    n = length_of p.second

    t : Table
    t = ok.table

    h2 : ℕ
    h2 = checksum (p.first ∷ p.second ∷ [])

    on : Framed
    on = blocks turns (before ++ sent p) (put lists t p.words) rest

    next : Table → List ℕ → ℕ → List ℕ → Framed
    next u ws sum after = blocks turns (before ++ (p.first ∷ p.second ∷ h2 ∷ (ws ++ (sum ∷ [])))) (put lists u ws) after

    tail : List ℕ
    tail = p.words ++ (checksum p.words ∷ []) ++ rest

    follow : Table → Framed
    follow u = checked (take n tail) (drop n tail) (next u (take n tail))

    header : header_of (block_in p) n (had lists) ≡ Right t
    header =
        ap (λ (b : Block). header_of b n (had lists)) ok.named
        ∙ not_wrong t n (had lists) (subst (λ (x : ℕ). Passes t x (had lists t)) (sym ok.told) passes)

    tail_is : tail ≡ p.words ++ (checksum p.words ∷ rest)
    tail_is = append_assoc p.words (checksum p.words ∷ []) rest

    taken : take n tail ≡ p.words
    taken = ap (λ (l : List ℕ). take n l) tail_is ∙ take_at p.words (checksum p.words ∷ rest) n (sym ok.told)

    dropped : drop n tail ≡ checksum p.words ∷ rest
    dropped = ap (λ (l : List ℕ). drop n l) tail_is ∙ drop_at p.words (checksum p.words ∷ rest) n (sym ok.told)

    data_passes : follow t ≡ on
    data_passes =
        ap (λ (l : List ℕ). checked l (drop n tail) (next t l)) taken
        ∙ ap (λ (l : List ℕ). checked p.words l (next t p.words)) dropped
        ∙ sym (pass (not (eqb (checksum p.words) (checksum p.words))) (not (eqb (checksum p.words) (checksum p.words))) on (refused 7) on refl
        (ap not (eq-eqb (checksum p.words) (checksum p.words) refl)) refl)

ending : (turns : ℕ) (before : List ℕ) (lists : List (List ℕ)) (e0 e1 : ℕ) → length_of e1 ≡ 0
    → blocks (suc turns) before lists (e0 ∷ e1 ∷ checksum (before ++ (e0 ∷ e1 ∷ [])) ∷ []) ≡ passed lists
unfolding blocks
ending turns before lists e0 e1 end =
    rw (eq-eqb (length_of e1) 0 end, eq-eqb (checksum (before ++ (e0 ∷ e1 ∷ []))) (checksum (before ++ (e0 ∷ e1 ∷ []))) refl) refl

-- ---- and so does a stream
pieces_pass : (turns : ℕ) (before : List ℕ) (lists : List (List ℕ)) (ps : List Piece) (e0 e1 : ℕ) → length (laid before ps e0 e1) ≤ turns → Sound lists → All ps
    → Fits lists ps
    → length_of e1 ≡ 0
    → blocks turns before lists (laid before ps e0 e1) ≡ passed (after lists ps)
unfolding laid after
pieces_pass zero before lists [] e0 e1 h sound all fits end = absurd (not-suc-le-zero h)
pieces_pass zero before lists (p ∷ ps) e0 e1 h sound all fits end = absurd (not-suc-le-zero h)
pieces_pass (suc turns) before lists [] e0 e1 h sound all fits end = ending turns before lists e0 e1 end
pieces_pass (suc turns) before lists (p ∷ ps) e0 e1 h sound all fits end =
    let t : Table = all.0.table in
    let ok : Passes t (length p.words) (had lists t) = fits_passes lists p ps sound all.0 fits in
    block_passes turns before lists p (laid (before ++ sent p) ps e0 e1) all.0 ok
    ∙ pieces_pass turns (before ++ sent p) (put lists t p.words) ps e0 e1
    (le_trans (omega (arith, length-append (p.words ++ (checksum p.words ∷ [])) (laid (before ++ sent p) ps e0 e1))) (le_of_suc-le-suc h))
    (sound_put lists sound t p.words ok)
    all.1
    (fits_on lists p ps sound all.0 fits)
    end
    ∙ ap (λ (b : Block). passed (after (put_to lists b p.words) ps)) (sym all.0.named)

-- "blocks cut between entries and laid in any order" pass, with the lists that they bring
pub ordered : (ps : List Piece) (e0 e1 : ℕ) → All ps → ((t : Table) → length (brings t ps) ≤ room (row_of t)) → length_of e1 ≡ 0
    → framed (streamed ps e0 e1) ≡ passed (after none ps)
unfolding framed
ordered ps e0 e1 all fits end =
    sym
    (pass (not (eqb device device)) (not (eqb device device)) _ (refused 1) _ refl refl
    (sym
    (pieces_pass (length (laid (device ∷ []) ps e0 e1)) (device ∷ []) none ps e0 e1 (le_refl _) sound_none all
    (λ t. subst (λ (l : List ℕ). length l + length (brings t ps) ≤ room (row_of t)) (sym (nothing t))
    (subst (λ (x : ℕ). x ≤ room (row_of t)) (sym (zero-add (length (brings t ps)))) (fits t)))
    end)))

-- ---- the lists are what the blocks bring, whatever their order
length_put : (lists : List (List ℕ)) (b : Block) (ws : List ℕ) → length (put_to lists b ws) ≡ length lists
length_put lists (Ok t) ws = length-set lists (index_of t) _
length_put lists (Err NotCarried) ws = refl
length_put lists (Err Unknown) ws = refl

length_after : (lists : List (List ℕ)) (ps : List Piece) → length (after lists ps) ≡ length lists
unfolding after
length_after lists [] = refl
length_after lists (p ∷ ps) = length_after (put_to lists (block_in p) p.words) ps ∙ length_put lists (block_in p) p.words

-- one block more
put_brings : (lists : List (List ℕ)) (t : Table) (b : Block) (ws more : List ℕ) → length lists ≡ table_count
    → list_of (put_to lists b ws) t ++ more ≡ list_of lists t ++ cond (is_of t b) (ws ++ more) more
put_brings lists t (Err NotCarried) ws more h = refl
put_brings lists t (Err Unknown) ws more h = refl
put_brings lists t (Ok u) ws more h = decide (ℕ_discrete (index_of t) (index_of u))
  where
    decide : Dec (index_of t ≡ index_of u) → list_of (put lists u ws) t ++ more ≡ list_of lists t ++ cond (eqb (index_of t) (index_of u)) (ws ++ more) more
    decide (yes e) =
        ap (λ (x : Table). list_of (put lists x ws) t ++ more) (sym (same_place t u e))
        ∙ ap (λ (l : List ℕ). l ++ more) (put_same lists t ws h)
        ∙ append_assoc (list_of lists t) ws more
        ∙ ap (λ (x : Bool). list_of lists t ++ cond x (ws ++ more) more) (sym (eq-eqb (index_of t) (index_of u) e))
    decide (no ne) =
        ap (λ (l : List ℕ). l ++ more) (put_other lists u ws t ne)
        ∙ ap (λ (x : Bool). list_of lists t ++ cond x (ws ++ more) more) (sym (ne_eqb (index_of t) (index_of u) ne))

after_at : (lists : List (List ℕ)) (ps : List Piece) (t : Table) → length lists ≡ table_count → list_of (after lists ps) t ≡ list_of lists t ++ brings t ps
unfolding after brings
after_at lists [] t h = sym (append-nil (list_of lists t))
after_at lists (p ∷ ps) t h =
    after_at (put_to lists (block_in p) p.words) ps t (length_put lists (block_in p) p.words ∙ h) ∙ put_brings lists t (block_in p) p.words (brings t ps) h

-- each table's list is what the blocks bring to it
pub after_brings : (ps : List Piece) (t : Table) → list_of (after none ps) t ≡ brings t ps
after_brings ps t = after_at none ps t sound_none.all ∙ ap (λ (l : List ℕ). l ++ brings t ps) (nothing t)

-- two orders and cuttings of blocks that bring each table the same words give the same lists
pub same_lists : (ps qs : List Piece) → ((t : Table) → brings t ps ≡ brings t qs) → after none ps ≡ after none qs
same_lists ps qs same =
    ext_get_or [] (after none ps) (after none qs) (length_after none ps ∙ sym (length_after none qs))
    (λ k h. let t : Table = (row_at k).table in
    let here : index_of t ≡ k = place_of_row k (subst (λ (n : ℕ). k < n) (length_after none ps ∙ sound_none.all) h) in
    subst (λ (x : ℕ). get_or (after none ps) x [] ≡ get_or (after none qs) x []) here (after_brings ps t ∙ same t ∙ sym (after_brings qs t)))
