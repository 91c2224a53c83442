-- The walk over a stream's blocks asks framing's tests in the page's order, and a stream is told one number: that of the paper's form.
use Rattle.std.specs.Prelude.{◌≡◌, refl, Bool, true, false, cond, not, ◌&&◌, List, [], ◌∷◌, ◌++◌, ℕ, zero, suc, ◌+◌, ◌-◌, ◌/◌, ◌%◌, ◌≤◌, ltb, eqb, length, get_or, take, drop, Ok, Err}
use Rattle.std.proofs.Common.{sym, ◌∙◌, ap, subst, true≢false, not-suc-le-zero, le_refl, arith, length-drop, eqb-true}
use Rattle.std.proofs.lemmas.Bool.{eqb-false}
use Rattle.crc.specs.Crc.{checksum}
use Rattle.image.specs.Rows.{size_of, most_of}
use Rattle.image.specs.Blocks.{Block, block_of}
use Rattle.image.specs.declared.tables.Table.{Table}
use Rattle.image.specs.declared.tables.NoTable.TheVariants.{NotCarried, Unknown}
use Rattle.stream.specs.Header.{Header, Wrong, Right, device, id_of, length_of, header_of}
use Rattle.stream.specs.Paper.{Framed, refused, cut, passed, none, put, had, headed_by, checked, blocks, framed, refused_with, ended, outcome_of, loaded}
use Rattle.image.specs.Layout.{image_of}
use Rattle.rules.specs.Rules.{ruled}
use Rattle.exactly.specs.First.{First}
use Rattle.exactly.specs.Decides.{Decides, first_of}
use Rattle.exactly.specs.FirstLaws.{first_is, same_first}
use Rattle.exactly.specs.DecidesLaws.{also}
use Rattle.exactly.specs.Ids.{is_unknown, is_other, is_carried, unknown_id, other_id, carried_id}
use Rattle.exactly.specs.IdsLaws.{names}
use Rattle.exactly.specs.Rules.{rules_page}
use Rattle.exactly.specs.RulesProved.{ruled_first}
use Rattle.exactly.specs.Framing.{Place, place, id_at, block_at, table_in, table_at, length_at, is_end, is_block, some, header_wrong, data_wrong, global_wrong, words_end, framing_page, onward}
use Rattle.exactly.specs.Load.{TellsFrom, breaks, ends, goes, Tells, nothing, differs, begins}

-- ---- one block

abbrev refused_by : ℕ → Framed
refused_by n = cond (eqb n 10) cut (refused n)

abbrev from : ℕ → Place → Framed
from turns p = blocks turns p.before p.lists p.words

-- one block, by the first test that holds
abbrev by_first : ℕ → Place → ℕ → Framed
by_first turns p n = cond (eqb n 0) (cond (is_end p) (passed p.lists) (from turns (onward p))) (refused_by n)

-- the tests, by what is said of the ID: strange to table 2, another's, or a carried table's
abbrev asked : Place → Bool → Bool → Bool → List Bool
asked p strange other known =
    global_wrong p
    ∷ header_wrong p
    ∷ (is_block p && strange)
    ∷ (is_block p && other)
    ∷ (is_block p && (known && not (eqb (length_at p % size_of (table_at p)) 0)))
    ∷ (is_block p && (known && ltb (most_of (table_at p)) (had p.lists (table_at p) + length_at p / size_of (table_at p))))
    ∷ data_wrong p
    ∷ words_end p
    ∷ []

-- asked of the ID's lists, as the page asks
abbrev tests : Place → List Bool
tests p = asked p (unknown_id (id_at p)) (other_id (id_at p)) (carried_id (id_at p))

-- asked of what the ID names, as the walk asks
abbrev by_name : Place → List Bool
by_name p = asked p (is_unknown (block_at p)) (is_other (block_at p)) (is_carried (block_at p))

-- which is the same, since what it names and the ID's lists agree
same_tests : (p : Place) → by_name p ≡ tests p
same_tests p =
    let k = names (id_at p) in
    ap (λ (b : Bool). asked p b (is_other (block_at p)) (is_carried (block_at p))) k.unknown
    ∙ ap (λ (b : Bool). asked p (unknown_id (id_at p)) b (is_carried (block_at p))) k.other
    ∙ ap (asked p (unknown_id (id_at p)) (other_id (id_at p))) k.carried

by_name_lem : (turns : ℕ) (before : List ℕ) (lists : List (List ℕ)) (ws : List ℕ)
    → blocks (suc turns) before lists ws ≡ by_first turns (place before lists ws) (first_of (framing_page (place before lists ws)) (by_name (place before lists ws)) 0)
unfolding blocks
by_name_lem turns before lists [] = refl
by_name_lem turns before lists (h0 ∷ []) = refl
by_name_lem turns before lists (h0 ∷ h1 ∷ []) = refl
by_name_lem turns before lists (h0 ∷ h1 ∷ h2 ∷ rest) =
    go (eqb n 0) (not (eqb h2 (checksum (before ++ (h0 ∷ h1 ∷ []))))) (not (eqb h2 (checksum (h0 ∷ h1 ∷ [])))) (block_of (id_of h0)) (drop n rest)
  where
    n : ℕ
    n = length_of h1

    ws : List ℕ
    ws = take n rest

    next : Table → ℕ → List ℕ → Framed
    next t sum after = blocks turns (before ++ (h0 ∷ h1 ∷ h2 ∷ (ws ++ (sum ∷ [])))) (put lists t ws) after

    -- the tests of 5 and 6, for a table
    parts : Table → Bool
    parts t = not (eqb (n % size_of t) 0)

    over : Table → Bool
    over t = ltb (most_of t) (had lists t + n / size_of t)

    told : Bool → Bool → Bool → Block → Bool → Bool → List ℕ → ℕ
    told z s8 s2 b w5 w6 left =
        cond (z && s8) 8
        (cond (not z && s2) 2
        (cond (not z && is_unknown b) 3
        (cond (not z && is_other b) 4
        (cond (not z && (is_carried b && w5)) 5
        (cond (not z && (is_carried b && w6)) 6
        (cond (not z && (some left && not (eqb (get_or left 0 0) (checksum ws)))) 7 (cond (not z && not (some left)) 10 0)))))))

    By : Bool → Bool → Bool → Block → Bool → Bool → List ℕ → Framed
    By z s8 s2 b w5 w6 left =
        cond (eqb (told z s8 s2 b w5 w6 left) 0) (cond z (passed lists) (next (table_in b) (get_or left 0 0) (drop 1 left))) (refused_by (told z s8 s2 b w5 w6 left))

    Walks : Bool → Bool → Bool → Header → List ℕ → Framed
    Walks z s8 s2 header left = cond z (cond s8 (refused 8) (passed lists)) (cond s2 (refused 2) (headed_by header (λ t. checked ws left (next t))))

    seven : (t : Table) (sum : ℕ) (after : List ℕ) (b : Bool)
        → cond b (refused 7) (next t sum after) ≡ cond (eqb (cond b 7 0) 0) (next t sum after) (refused_by (cond b 7 0))
    seven t sum after true = refl
    seven t sum after false = refl

    carry : (t : Table) (s8 w5 w6 : Bool) (left : List ℕ)
        → Walks false s8 false (cond w5 (Wrong 5) (cond w6 (Wrong 6) (Right t))) left ≡ By false s8 false (Ok t) w5 w6 left
    carry t s8 true w6 left = refl
    carry t s8 false true left = refl
    carry t s8 false false [] = refl
    carry t s8 false false (sum ∷ after) = seven t sum after (not (eqb sum (checksum ws)))

    go : (z s8 s2 : Bool) (b : Block) (left : List ℕ) → Walks z s8 s2 (header_of b n (had lists)) left ≡ By z s8 s2 b (parts (table_in b)) (over (table_in b)) left
    go true true s2 b left = refl
    go true false s2 b left = refl
    go false s8 true b left = refl
    go false s8 false (Err Unknown) left = refl
    go false s8 false (Err NotCarried) left = refl
    go false s8 false (Ok t) left = carry t s8 (parts t) (over t) left

-- the number that they come to
abbrev number_at : Place → ℕ
number_at p = first_of (framing_page p) (tests p) 0

one_block : (turns : ℕ) (before : List ℕ) (lists : List (List ℕ)) (ws : List ℕ)
    → blocks (suc turns) before lists ws ≡ by_first turns (place before lists ws) (number_at (place before lists ws))
one_block turns before lists ws =
    by_name_lem turns before lists ws ∙ ap (λ (ts : List Bool). by_first turns (place before lists ws) (first_of (framing_page (place before lists ws)) ts 0)) (same_tests (place before lists ws))

-- the words behind a block are fewer
shorter : (ws : List ℕ) (n turns : ℕ) → length ws ≤ suc turns → length (drop 1 (drop n (drop 3 ws))) ≤ turns
shorter ws n turns h =
    subst (λ (x : ℕ). x ≤ turns) (sym (length-drop 1 (drop n (drop 3 ws)) ∙ ap (λ (x : ℕ). x - 1) (length-drop n (drop 3 ws) ∙ ap (λ (x : ℕ). x - n) (length-drop 3 ws))))
    (less (length ws) n turns h)
  where
    less : (a b c : ℕ) → a ≤ suc c → a - 3 - b - 1 ≤ c
    less a b c q = omega arith

-- a test decides that it holds
itself : (b : Bool) → Decides b (b ≡ true)
itself b = (λ e. e, λ e. e)

first_at : (p : Place) → First (framing_page p) (number_at p)
first_at p =
    first_is (framing_page p) (tests p)
    (also (itself _) (also (itself _) (also (itself _) (also (itself _) (also (itself _) (also (itself _) (also (itself _) (also (itself _) tt))))))))

-- ---- a stream is told its number

-- the number of what framing makes of a stream
abbrev number_in : Framed → ℕ
number_in f = (outcome_of f).number

ended_number : (lists : List (List ℕ)) → (ended lists).number ≡ ruled (image_of lists)
ended_number lists = go (eqb (ruled (image_of lists)) 0) refl
  where
    go : (t : Bool) → eqb (ruled (image_of lists)) 0 ≡ t
        → (cond t (record { number = 0; image = image_of lists }) (refused_with (ruled (image_of lists)))).number ≡ ruled (image_of lists)
    go true e = sym (eqb-true _ 0 e)
    go false e = refl

-- where framing passes, a stream's number is the rules' answer on the image that its tables fix
pub ruled_number : (words : List ℕ) (lists : List (List ℕ)) → framed words ≡ passed lists → (loaded words).number ≡ ruled (image_of lists)
ruled_number words lists e = ap number_in e ∙ ended_number lists

tells_from : (turns : ℕ) (before : List ℕ) (lists : List (List ℕ)) (ws : List ℕ) → length ws ≤ turns
    → TellsFrom (place before lists ws) (number_in (blocks turns before lists ws))
unfolding blocks
tells_from zero before lists [] h = breaks (first_at (place before lists [])) (eqb-false 10 0 refl)
tells_from zero before lists (w ∷ ws) h = absurd (not-suc-le-zero h)
tells_from (suc turns) before lists ws h =
    subst (λ (f : Framed). TellsFrom p (number_in f)) (sym (one_block turns before lists ws))
    (by (number_at p) (first_at p) (eqb (number_at p) 0) refl
    (tells_from turns (onward p).before (onward p).lists (onward p).words (shorter ws (length_at p) turns h)))
  where
    p : Place
    p = place before lists ws

    end : First (framing_page p) 0 → (t : Bool) → is_end p ≡ t → TellsFrom (onward p) (number_in (from turns (onward p)))
        → TellsFrom p (number_in (cond t (passed lists) (from turns (onward p))))
    end f true e rest = ends f e (subst (First (rules_page (image_of lists))) (sym (ended_number lists)) (ruled_first (image_of lists)))
    end f false e rest = goes f e rest

    same : (n : ℕ) (t : Bool) → eqb n 10 ≡ t → n ≡ number_in (cond t cut (refused n))
    same n true e = eqb-true n 10 e
    same n false e = refl

    by : (n : ℕ) → First (framing_page p) n → (t : Bool) → eqb n 0 ≡ t → TellsFrom (onward p) (number_in (from turns (onward p)))
        → TellsFrom p (number_in (cond t (cond (is_end p) (passed lists) (from turns (onward p))) (refused_by n)))
    by n f true e rest = end (subst (First (framing_page p)) (eqb-true n 0 e) f) (is_end p) refl rest
    by n f false e rest = subst (TellsFrom p) (same n (eqb n 10) refl) (breaks f (eqb-false n 0 e))

-- a stream is told its number
pub tells : (words : List ℕ) → Tells words (loaded words).number
unfolding framed
tells [] = nothing
tells (w ∷ ws) = go (eqb w device) refl
  where
    go : (t : Bool) → eqb w device ≡ t → Tells (w ∷ ws) (number_in (cond (not t) (refused 1) (blocks (length ws) (w ∷ []) none ws)))
    go true e = begins (eqb-true w device e) (tells_from (length ws) (w ∷ []) none ws (le_refl (length ws)))
    go false e = differs (eqb-false w device e)

-- ---- and no other

both : {b : Bool} → b ≡ true → b ≡ false → ⊥
both e h = true≢false (sym e ∙ h)

same_from : {p : Place} {m n : ℕ} → TellsFrom p m → TellsFrom p n → m ≡ n
same_from (breaks {p} f z) (breaks g y) = same_first (framing_page p) _ _ f g
same_from (breaks {p} f z) (ends g e r) = absurd (z (same_first (framing_page p) _ _ f g))
same_from (breaks {p} f z) (goes g e r) = absurd (z (same_first (framing_page p) _ _ f g))
same_from (ends {p} f d q) (breaks g y) = absurd (y (same_first (framing_page p) _ _ g f))
same_from (ends {p} f d q) (ends g e r) = same_first (rules_page (image_of p.lists)) _ _ q r
same_from (ends f d q) (goes g e r) = absurd (both d e)
same_from (goes {p} f d q) (breaks g y) = absurd (y (same_first (framing_page p) _ _ g f))
same_from (goes f d q) (ends g e r) = absurd (both e d)
same_from (goes f d q) (goes g e r) = same_from q r

-- any two numbers that a stream is told are equal
pub same_told : {words : List ℕ} {m n : ℕ} → Tells words m → Tells words n → m ≡ n
same_told nothing nothing = refl
same_told (differs ne) (differs z) = refl
same_told (differs ne) (begins e t) = absurd (ne e)
same_told (begins e t) (differs ne) = absurd (ne e)
same_told (begins e t) (begins d s) = same_from t s
