-- The bridge: from a fresh state the machine over any words gives what the paper's form gives for those words.
use Rattle.std.specs.Prelude.{◌≡◌, refl, Bool, true, false, cond, not, ℕ, zero, suc, ◌+◌, ◌-◌, ◌*◌, ◌/◌, ◌≤◌, eqb, get_or, set, drop, replicate}
use Rattle.std.proofs.Math.Path.{sym, ap, subst}
use Rattle.std.proofs.Common.{◌∙◌, zero-le, le-add_right, add-zero, zero-add, add-suc, suc-add, le_refl, le_trans, not-suc-le-zero, mul_comm, add-mul, zero-mul, arith, length-append, length-set, take-append-drop, drop_at, take_at, take_all}
use mathlib.Core.List.{List, [], ◌∷◌, ◌++◌}
use Rattle.std.proofs.Math.Nat.{le_of_eq, sub_self, mul-add-div_right, min-eq_left, zero-div}
use Rattle.std.proofs.Math.Decide.{ℕ_discrete}
use Rattle.std.proofs.Math.ListN.{length, take, length-take, length-drop}
use Rattle.std.proofs.lemmas.List.{length-replicate, replicate-append-replicate}
use Rattle.std.proofs.lemmas.List.Edits.{sets}
use Rattle.std.proofs.Math.Seq.{length-sets}
use Rattle.crc.specs.Crc.{word_in, words_in, start, finished, checksum}
use Rattle.crc.proofs.Laws.{words_in_append}
use Rattle.image.specs.Rows.{Row, rows, room, before, index_of, table_count, row_of, size_of, most_of, start_of}
use Rattle.image.specs.RowLaws.{size_positive, room_inside, same_place}
use Rattle.image.specs.Blocks.{Block, block_of}
use Rattle.image.specs.Layout.{image_words, entry_words, state_words, image_in, padded, entries_from, counts_from, state, layout, list_of, count_of, cleared, counted, marked}
use Rattle.image.specs.Images.{length_layout, layout_count}
use Rattle.image.specs.declared.tables.Table.{Table}
use Rattle.rules.specs.Rules.{ruled}
use Rattle.stream.specs.Header.{Header, Wrong, Right, device, id_of, length_of, header_of}
use Rattle.stream.specs.Passes.{Passes}
use Rattle.stream.specs.Headers.{right, passes_room, whole_entries, same_header}
use Rattle.stream.specs.Paper.{Framed, refused, passed, none, put, had, headed_by, checked, blocks, framed}
use Rattle.stream.specs.Machine.{Machine, at, fresh, idle, headed, sized, filling, told, refuse, had_in, place_in, finish, begins, step, run, answer_of}
use Rattle.stream.specs.Stored.{put_same, put_other, layout_put}
use Rattle.stream.specs.Runs.{run_append, run_told, had_kept, drop_sets, run_data}
use Rattle.stream.specs.declared.Answer.TheVariants.{More}
use Rattle.stream.specs.declared.Load.{Load}
use Rattle.stream.specs.Bridge.{Waits, Agrees, Sound}

-- one test in both forms
both : (rest : List ℕ) (t : Bool) (a b : Framed) (l m : Machine) (ws : List ℕ)
    → (t ≡ true → Agrees rest a (run l ws))
    → (t ≡ false → Agrees rest b (run m ws))
    → Agrees rest (cond t a b) (run (cond t l m) ws)
both rest true a b l m ws held failed = held refl
both rest false a b l m ws held failed = failed refl

nothing_at : (n k : ℕ) → get_or {A = List ℕ} (replicate n []) k [] ≡ []
nothing_at zero k = refl
nothing_at (suc n) zero = refl
nothing_at (suc n) (suc k) = nothing_at n k

pub nothing : (t : Table) → list_of none t ≡ []
nothing t = nothing_at table_count (index_of t)

pub sound_none : Sound none
sound_none =
    record {
      all = refl;
      whole = λ t. ap (λ (l : List ℕ). length l / size_of t * size_of t) (nothing t) ∙ empty (size_of t) ∙ sym (ap length (nothing t));
      fits = λ t. subst (λ (l : List ℕ). length l ≤ room (row_of t)) (sym (nothing t)) zero-le;
    }
  where
    empty : (s : ℕ) → 0 / s * s ≡ 0
    empty s = ap (λ (x : ℕ). x * s) (zero-div s) ∙ zero-mul s

-- a block that its header lets through has room in its table
fits_after : (lists : List (List ℕ)) → Sound lists → (t : Table) (n : ℕ) → Passes t n (had lists t) → length (list_of lists t) + n ≤ room (row_of t)
fits_after lists sound t n ok =
    subst (λ (x : ℕ). x + n ≤ room (row_of t)) (sound.whole t)
    (subst (λ (x : ℕ). had lists t * size_of t + n ≤ x) (mul_comm (most_of t) (size_of t)) (passes_room t n (had lists t) ok))

-- such a block, put to the lists
module _ (lists : List (List ℕ)) (sound : Sound lists) (t : Table) (ds : List ℕ) (ok : Passes t (length ds) (had lists t)) where
  -- the count after it
  count_after : had lists t + length ds / size_of t ≡ length (list_of lists t ++ ds) / size_of t
  count_after =
      sym
      (ap (λ (x : ℕ). x / size_of t) (length-append (list_of lists t) ds ∙ ap (λ (x : ℕ). x + length ds) (sym (sound.whole t)))
      ∙ mul-add-div_right (size_positive t) (had lists t) (length ds))

  pub sound_put : Sound (put lists t ds)
  sound_put =
      record {
        all = length-set lists (index_of t) _ ∙ sound.all;
        whole = λ u. at_each (λ (v : Table) (l : List ℕ). length l / size_of v * size_of v ≡ length l) whole_here u (sound.whole u);
        fits = λ u. at_each (λ (v : Table) (l : List ℕ). length l ≤ room (row_of v)) fits_here u (sound.fits u);
      }
    where
      whole_here : length (list_of lists t ++ ds) / size_of t * size_of t ≡ length (list_of lists t ++ ds)
      whole_here =
          ap (λ (x : ℕ). x * size_of t) (sym count_after)
          ∙ add-mul (had lists t) (length ds / size_of t) (size_of t)
          ∙ ap (λ (x : ℕ). x + length ds / size_of t * size_of t) (sound.whole t)
          ∙ ap (λ (x : ℕ). length (list_of lists t) + x) (sym (whole_entries (length ds) (size_of t) ok.whole))
          ∙ sym (length-append (list_of lists t) ds)

      fits_here : length (list_of lists t ++ ds) ≤ room (row_of t)
      fits_here = subst (λ (x : ℕ). x ≤ room (row_of t)) (sym (length-append (list_of lists t) ds)) (fits_after lists sound t (length ds) ok)

      at_each : (P : Table → List ℕ → Type 0) → P t (list_of lists t ++ ds) → (u : Table) → P u (list_of lists u) → P u (list_of (put lists t ds) u)
      at_each P here u other = decide (ℕ_discrete (index_of u) (index_of t))
        where
          decide : Dec (index_of u ≡ index_of t) → P u (list_of (put lists t ds) u)
          decide (yes e) =
              subst (λ (v : Table). P v (list_of (put lists t ds) v)) (sym (same_place u t e))
              (subst (λ (l : List ℕ). P t l) (sym (put_same lists t ds sound.all)) here)
          decide (no ne) = subst (λ (l : List ℕ). P u l) (sym (put_other lists t ds u ne)) other

-- ---- the leaves

-- the image goes and the rest stays
pub cleared_rest : (buffer rest : List ℕ) → drop image_words buffer ≡ rest → cleared buffer ≡ replicate image_words 0 ++ rest
unfolding cleared
cleared_rest buffer rest e = ap (λ (l : List ℕ). replicate image_words 0 ++ l) e

pub rest_of : (mark : ℕ) (lists : List (List ℕ)) (rest : List ℕ) → drop image_words (layout mark lists ++ rest) ≡ rest
rest_of mark lists rest = drop_at (layout mark lists) rest image_words (length_layout mark lists)

pub image_of_lem : (mark : ℕ) (lists : List (List ℕ)) (rest : List ℕ) → image_in (layout mark lists ++ rest) ≡ layout mark lists
unfolding image_in
image_of_lem mark lists rest = take_at (layout mark lists) rest image_words (length_layout mark lists)

-- the counts of the image are those of the lists
had_layout : (lists : List (List ℕ)) (rest : List ℕ) (t : Table) → had_in (layout 0 lists ++ rest) t ≡ had lists t
had_layout lists rest t = ap (λ (l : List ℕ). count_of l t) (image_of_lem 0 lists rest) ∙ layout_count 0 lists t

refusing : (rest buffer : List ℕ) (n : ℕ) (ws : List ℕ) → drop image_words buffer ≡ rest → Agrees rest (refused n) (run (refuse buffer n) ws)
refusing rest buffer n ws e = run_told (told n) (cleared buffer) ws n refl ∙ ap (λ (b : List ℕ). at (told n) b) (cleared_rest buffer rest e)

-- an end is an answer, and words after it change nothing
run_finish : (buffer ws : List ℕ) → run (finish buffer) ws ≡ finish buffer
run_finish buffer ws = go (eqb (ruled (image_in (marked buffer))) 0)
  where
    go : (t : Bool)
        → run (cond t (at (told 0) (marked buffer)) (refuse buffer (ruled (image_in (marked buffer))))) ws
        ≡ cond t (at (told 0) (marked buffer)) (refuse buffer (ruled (image_in (marked buffer))))
    go true = run_told (told 0) (marked buffer) ws 0 refl
    go false = run_told (told (ruled (image_in (marked buffer)))) (cleared buffer) ws (ruled (image_in (marked buffer))) refl

-- the global checksum so far, with the two header words
header_sum : (before : List ℕ) (h0 h1 : ℕ) → finished (word_in (word_in (words_in start before) h0) h1) ≡ checksum (before ++ (h0 ∷ h1 ∷ []))
unfolding checksum words_in
header_sum before h0 h1 = ap finished (sym (words_in_append start before (h0 ∷ h1 ∷ [])))

-- the whole stream's register after a block
stream_after : (before ds : List ℕ) (h0 h1 h2 sum : ℕ)
    → word_in (words_in (word_in (word_in (word_in (words_in start before) h0) h1) h2) ds) sum ≡ words_in start (before ++ (h0 ∷ h1 ∷ h2 ∷ (ds ++ (sum ∷ []))))
unfolding words_in
stream_after before ds h0 h1 h2 sum =
    sym
    (words_in_append start before (h0 ∷ h1 ∷ h2 ∷ (ds ++ (sum ∷ []))) ∙ words_in_append (word_in (word_in (word_in (words_in start before) h0) h1) h2) ds (sum ∷ []))

had_sets : (buffer : List ℕ) (i : ℕ) (t : Table) (ds : List ℕ) → i + length ds ≤ entry_words → had_in (sets buffer i ds) t ≡ had_in buffer t
had_sets buffer i t [] h = refl
had_sets buffer i t (d ∷ ds) h =
    had_sets (set buffer i d) (suc i) t ds (subst (λ (x : ℕ). x ≤ entry_words) (add-suc i (length ds) ∙ sym (suc-add i (length ds))) h)
    ∙ had_kept buffer i d t (omega arith)

-- ---- a block's data in both forms
module _ (rest : List ℕ) (lists : List (List ℕ)) (sound : Sound lists) (t : Table) (n s : ℕ) (ok : Passes t n (had lists t))
    (ws : List ℕ) (next : ℕ → List ℕ → Framed) where
  abbrev buffer : List ℕ
  buffer = layout 0 lists ++ rest

  abbrev ds : List ℕ
  ds = take n ws

  -- where the block's first word goes
  place : place_in buffer t 0 ≡ start_of t + length (list_of lists t)
  place =
      add-zero _
      ∙ ap (λ (x : ℕ). start_of t + x * size_of t) (had_layout lists rest t)
      ∙ ap (λ (x : ℕ). start_of t + x) (sound.whole t)

  inside : (m : ℕ) → m ≤ n → place_in buffer t 0 + m ≤ entry_words
  inside m h = subst (λ (x : ℕ). x + m ≤ entry_words) (sym place) (omega (arith, fits_after lists sound t n ok, room_inside t))

  -- the words end inside the block
  waits : drop n ws ≡ [] → Waits rest (run (at (filling t 0 n s start) buffer) ws)
  waits e =
      let short : length ws ≤ n = omega (arith, simp length-drop at (ap length e)) in
      subst (λ (m : Machine). Waits rest m) (sym (run_data t 0 n s start buffer ws short (inside (length ws) short)))
      (record {
        more = refl;
        whole = subst (λ (x : ℕ). image_words ≤ x)
            (sym (length-sets buffer (place_in buffer t 0) ws ∙ length-append (layout 0 lists) rest ∙ ap (λ (x : ℕ). x + length rest) (length_layout 0 lists)))
            (le-add_right image_words (length rest));
        kept = drop_sets image_words buffer (place_in buffer t 0) ws (le_trans (inside (length ws) short) (omega arith)) ∙ rest_of 0 lists rest;
      })

  -- the block's words are stored and its count raised
  stored : length (take n ws) ≡ n
      → counted (sets (layout 0 lists ++ rest) (place_in (layout 0 lists ++ rest) t 0) (take n ws)) t
      (had_in (sets (layout 0 lists ++ rest) (place_in (layout 0 lists ++ rest) t 0) (take n ws)) t + n / size_of t)
      ≡ layout 0 (put lists t (take n ws)) ++ rest
  stored long =
      let b : List ℕ = layout 0 lists ++ rest in
      let l : List ℕ = take n ws in
      let ok' : Passes t (length l) (had lists t) = subst (λ (x : ℕ). Passes t x (had lists t)) (sym long) ok in
      ap (λ (x : ℕ). counted (sets b (place_in b t 0) l) t (x + n / size_of t))
      (had_sets b (place_in b t 0) t l (inside (length l) (le_of_eq long)) ∙ had_layout lists rest t)
      ∙ ap (λ (x : ℕ). counted (sets b (place_in b t 0) l) t (had lists t + x / size_of t)) (sym long)
      ∙ ap (λ (x : ℕ). counted (sets b (place_in b t 0) l) t x) (count_after lists sound t l ok')
      ∙ ap (λ (x : ℕ). counted (sets b x l) t (length (list_of lists t ++ l) / size_of t)) place
      ∙ layout_put 0 lists t l rest sound.all (fits_after lists sound t (length l) ok')

  -- the data are whole, and their checksum follows
  follows : (sum : ℕ) (after : List ℕ) → drop n ws ≡ sum ∷ after
      → Agrees rest (next sum after) (run (at (idle (word_in (words_in s ds) sum)) (layout 0 (put lists t ds) ++ rest)) after)
      → Agrees rest (cond (not (eqb sum (checksum ds))) (refused 7) (next sum after)) (run (at (filling t 0 n s start) buffer) ws)
  unfolding run step checksum
  follows sum after e goes =
      let long : length (take n ws) ≡ n = length-take n ws ∙ min-eq_left (omega (arith, simp length-drop at (ap length e))) in
      let split : ws ≡ take n ws ++ (sum ∷ after) = sym (take-append-drop n ws) ∙ ap (λ (d : List ℕ). take n ws ++ d) e in
      let fits : length (take n ws) ≤ n = le_of_eq long in
      let filled : run (at (filling t 0 n s start) (layout 0 lists ++ rest)) (take n ws)
      ≡ at (filling t n 0 (words_in s (take n ws)) (words_in start (take n ws)))
      (sets (layout 0 lists ++ rest) (place_in (layout 0 lists ++ rest) t 0) (take n ws)) =
      run_data t 0 n s start (layout 0 lists ++ rest) (take n ws) fits (inside (length (take n ws)) fits)
      ∙ ap
      (λ (x : ℕ). at (filling t x (n - length (take n ws)) (words_in s (take n ws)) (words_in start (take n ws)))
      (sets (layout 0 lists ++ rest) (place_in (layout 0 lists ++ rest) t 0) (take n ws)))
      (zero-add (length (take n ws)) ∙ long)
      ∙ ap
      (λ (x : ℕ). at (filling t n x (words_in s (take n ws)) (words_in start (take n ws)))
      (sets (layout 0 lists ++ rest) (place_in (layout 0 lists ++ rest) t 0) (take n ws)))
      (ap (λ (x : ℕ). n - x) long ∙ sub_self n) in
      subst (λ (m : Machine). Agrees rest (cond (not (eqb sum (checksum (take n ws)))) (refused 7) (next sum after)) m)
      (sym
      (ap (λ (l : List ℕ). run (at (filling t 0 n s start) (layout 0 lists ++ rest)) l) split
      ∙ run_append (at (filling t 0 n s start) (layout 0 lists ++ rest)) (take n ws) (sum ∷ after)
      ∙ ap (λ (m : Machine). run m (sum ∷ after)) filled))
      (both rest (not (eqb sum (checksum (take n ws)))) (refused 7) (next sum after) _ _ after
      (λ _. refusing rest _ 7 after
      (drop_sets image_words _ _ (take n ws) (le_trans (inside (length (take n ws)) fits) (omega arith)) ∙ rest_of 0 lists rest))
      (λ _. subst (λ (b : List ℕ). Agrees rest (next sum after) (run (at (idle (word_in (words_in s (take n ws)) sum)) b) after)) (sym (stored long)) goes))

  -- either way
  block_data : ((sum : ℕ) (after : List ℕ) → drop n ws ≡ sum ∷ after
      → Agrees rest (next sum after) (run (at (idle (word_in (words_in s ds) sum)) (layout 0 (put lists t ds) ++ rest)) after))
      → Agrees rest (checked ds (drop n ws) next) (run (at (filling t 0 n s start) buffer) ws)
  block_data goes = go (drop n ws) refl
    where
      go : (d : List ℕ) → drop n ws ≡ d → Agrees rest (checked ds d next) (run (at (filling t 0 n s start) buffer) ws)
      go [] e = waits e
      go (sum ∷ after) e = follows sum after e (goes sum after e)

-- ---- the blocks of a stream
waiting : (rest : List ℕ) (lists : List (List ℕ)) (l : Load) → answer_of l.phase ≡ More → Waits rest (at l (layout 0 lists ++ rest))
waiting rest lists l e =
    record {
      more = e;
      whole = subst (λ (x : ℕ). image_words ≤ x) (sym (length-append (layout 0 lists) rest ∙ ap (λ (x : ℕ). x + length rest) (length_layout 0 lists)))
          (le-add_right image_words (length rest));
      kept = rest_of 0 lists rest;
    }

blocks_agree : (turns : ℕ) (before : List ℕ) (lists : List (List ℕ)) (rest ws : List ℕ) → length ws ≤ turns → Sound lists
    → Agrees rest (blocks turns before lists ws) (run (at (idle (words_in start before)) (layout 0 lists ++ rest)) ws)
unfolding blocks run step
blocks_agree zero before lists rest [] h sound = waiting rest lists (idle (words_in start before)) refl
blocks_agree zero before lists rest (w ∷ ws) h sound = absurd (not-suc-le-zero h)
blocks_agree (suc turns) before lists rest [] h sound = waiting rest lists (idle (words_in start before)) refl
blocks_agree (suc turns) before lists rest (h0 ∷ []) h sound = waiting rest lists (headed (word_in (words_in start before) h0) h0) refl
blocks_agree (suc turns) before lists rest (h0 ∷ h1 ∷ []) h sound =
    waiting rest lists (sized (word_in (word_in (words_in start before) h0) h1) h0 h1) refl
blocks_agree (suc turns) before lists rest (h0 ∷ h1 ∷ h2 ∷ ws) h sound =
    both rest (eqb n 0) _ _ _ _ ws
    (λ _. subst
    (λ (x : ℕ). Agrees rest (cond (not (eqb h2 (checksum (before ++ (h0 ∷ h1 ∷ []))))) (refused 8) (passed lists))
    (run (cond (not (eqb h2 x)) (refuse buffer 8) (finish buffer)) ws))
    (sym (header_sum before h0 h1))
    (both rest (not (eqb h2 (checksum (before ++ (h0 ∷ h1 ∷ []))))) _ _ _ _ ws (λ _. refusing rest buffer 8 ws (rest_of 0 lists rest)) (λ _. run_finish buffer ws)))
    (λ _. both rest (not (eqb h2 (checksum (h0 ∷ h1 ∷ [])))) _ _ _ _ ws (λ _. refusing rest buffer 2 ws (rest_of 0 lists rest))
    (λ _. subst (λ (x : Header). Agrees rest (headed_by (header_of b n (had lists)) follow) (run (begins x (word_in s h2) n buffer) ws))
    (sym (same_header b n (had_in buffer) (had lists) (had_layout lists rest)))
    (header (λ before lists ws h sound. blocks_agree turns before lists rest ws h sound) (header_of b n (had lists)) refl)))
  where
    n : ℕ
    n = length_of h1

    b : Block
    b = block_of (id_of h0)

    s : ℕ
    s = word_in (word_in (words_in start before) h0) h1

    buffer : List ℕ
    buffer = layout 0 lists ++ rest

    follow : Table → Framed
    follow t = checked (take n ws) (drop n ws) (λ sum after. blocks turns (before ++ (h0 ∷ h1 ∷ h2 ∷ (take n ws ++ (sum ∷ [])))) (put lists t (take n ws)) after)

    -- what the blocks behind this one come to
    Behind : Type 0
    Behind = (before : List ℕ) (lists : List (List ℕ)) (ws : List ℕ) → length ws ≤ turns → Sound lists
        → Agrees rest (blocks turns before lists ws) (run (at (idle (words_in start before)) (layout 0 lists ++ rest)) ws)

    header : Behind → (x : Header) → header_of b n (had lists) ≡ x → Agrees rest (headed_by x follow) (run (begins x (word_in s h2) n buffer) ws)
    header behind (Wrong number) e = refusing rest buffer number ws (rest_of 0 lists rest)
    header behind (Right t) e =
        let ok : Passes t n (had lists t) = (right b n (had lists) t e).passes in
        block_data rest lists sound t n (word_in s h2) ok ws _
        (λ sum after q. let long : length (take n ws) ≡ n = length-take n ws ∙ min-eq_left (omega (arith, simp length-drop at (ap length q))) in
        subst
        (λ (x : ℕ). Agrees rest (blocks turns (before ++ (h0 ∷ h1 ∷ h2 ∷ (take n ws ++ (sum ∷ [])))) (put lists t (take n ws)) after)
        (run (at (idle x) (layout 0 (put lists t (take n ws)) ++ rest)) after))
        (sym (stream_after before (take n ws) h0 h1 h2 sum))
        (behind (before ++ (h0 ∷ h1 ∷ h2 ∷ (take n ws ++ (sum ∷ [])))) (put lists t (take n ws)) after
        (omega (arith, simp length-drop at (ap length q)))
        (sound_put lists sound t (take n ws) (subst (λ (x : ℕ). Passes t x (had lists t)) (sym long) ok))))

-- ---- whole streams

-- no table has arrived: the image is zero
entries_none : (k : ℕ) (rs : List Row) → entries_from k rs none ≡ replicate (before (length rs) rs) 0
entries_none k [] = refl
entries_none k (r ∷ rs) =
    ap (λ (l : List ℕ). padded (room r) l ++ entries_from (suc k) rs none) (nothing_at table_count k)
    ∙ ap (λ (l : List ℕ). l ++ entries_from (suc k) rs none) (take_all (room r) (replicate (room r) 0) (le_of_eq (length-replicate (room r) 0)))
    ∙ ap (λ (l : List ℕ). replicate (room r) 0 ++ l) (entries_none (suc k) rs)
    ∙ replicate-append-replicate (room r) (before (length rs) rs) 0

counts_none : (k : ℕ) (rs : List Row) → counts_from k rs none ≡ replicate (length rs) 0
counts_none k [] = refl
counts_none k (r ∷ rs) =
    ap (λ (l : List ℕ). length l / r.size ∷ counts_from (suc k) rs none) (nothing_at table_count k)
    ∙ ap (λ (x : ℕ). x ∷ counts_from (suc k) rs none) (zero-div r.size)
    ∙ ap (λ (l : List ℕ). 0 ∷ l) (counts_none (suc k) rs)

layout_none : layout 0 none ≡ replicate image_words 0
unfolding layout
layout_none =
    ap (λ (l : List ℕ). l ++ (counts_from 0 rows none ++ state 0)) (entries_none 0 rows)
    ∙ ap (λ (l : List ℕ). replicate entry_words 0 ++ (l ++ state 0)) (counts_none 0 rows)
    ∙ replicate-append-replicate entry_words state_words 0

agree : (rest ws : List ℕ) → Agrees rest (framed ws) (run (at fresh (layout 0 none ++ rest)) ws)
unfolding framed run step words_in
agree rest [] = waiting rest none fresh refl
agree rest (w ∷ ws) =
    both rest (not (eqb w device)) _ _ _ _ ws (λ _. refusing rest (layout 0 none ++ rest) 1 ws (rest_of 0 none rest))
    (λ _. blocks_agree (length ws) (w ∷ []) none rest ws (le_refl (length ws)) sound_none)

-- from a fresh state, over a zero image, the machine gives what the paper's form gives
pub bridge : (rest ws : List ℕ) → Agrees rest (framed ws) (run (at fresh (replicate image_words 0 ++ rest)) ws)
bridge rest ws = subst (λ (l : List ℕ). Agrees rest (framed ws) (run (at fresh (l ++ rest)) ws)) layout_none (agree rest ws)
