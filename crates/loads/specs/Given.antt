-- Demand 2, of tables: "A loaded image holds the entries, the counts and the mark that it is loaded": it gives back each table's entries, as many as its
-- stream brought.
use Rattle.std.specs.Prelude.{◌≡◌, refl, Bool, true, false, cond, not, List, [], ◌∷◌, ◌++◌, ℕ, zero, suc, ◌+◌, ◌*◌, ◌≤◌, eqb, length, take, drop}
use Rattle.std.proofs.Common.{sym, ◌∙◌, subst, arith, length-take, length-drop}
use Rattle.std.proofs.Math.Path.{ap}
use Rattle.std.proofs.Math.Nat.{min-eq_left}
use Rattle.crc.specs.Crc.{checksum}
use Rattle.image.specs.Rows.{size_of}
use Rattle.image.specs.Layout.{image_words, image_in, list_of, count_of, entry_of, image_of}
use Rattle.image.specs.Loaded.{too_short}
use Rattle.image.specs.Images.{layout_count, layout_entry}
use Rattle.image.specs.Blocks.{Block, block_of}
use Rattle.image.specs.declared.tables.Table.{Table}
use Rattle.rules.specs.Rules.{ruled}
use Rattle.stream.specs.Header.{Header, Wrong, Right, device, id_of, length_of, header_of}
use Rattle.stream.specs.Passes.{Passes}
use Rattle.stream.specs.Headers.{right}
use Rattle.stream.specs.declared.Answer.{Answer}
use Rattle.stream.specs.declared.Answer.TheVariants.{Loaded, Refused}
use Rattle.stream.specs.Paper.{Framed, refused, cut, passed, none, put, had, headed_by, checked, blocks, framed, Outcome, refused_with, outcome_of, loaded, Whole, into, as_found, numbered, loaded_words}
use Rattle.stream.specs.Leaves.{Ends}
use Rattle.stream.specs.Bridge.{Sound}
use Rattle.stream.specs.BridgeLaws.{sound_none, sound_put, image_of_lem}

-- a stream that passes brings whole entries, and no more of a table than it may have
abbrev Fair : Framed → Type 0
Fair (refused n) = Unit {0}
Fair cut = Unit {0}
Fair (passed lists) = Sound lists

fair : (turns : ℕ) (before : List ℕ) (lists : List (List ℕ)) (ws : List ℕ) → Sound lists → Fair (blocks turns before lists ws)
unfolding blocks
fair zero before lists ws sound = tt
fair (suc turns) before lists [] sound = tt
fair (suc turns) before lists (h0 ∷ []) sound = tt
fair (suc turns) before lists (h0 ∷ h1 ∷ []) sound = tt
fair (suc turns) before lists (h0 ∷ h1 ∷ h2 ∷ rest) sound =
    end (λ b l a s. fair turns b l a s) (eqb n 0) (not (eqb h2 (checksum (before ++ (h0 ∷ h1 ∷ []))))) (not (eqb h2 (checksum (h0 ∷ h1 ∷ []))))
  where
    n : ℕ
    n = length_of h1

    b : Block
    b = block_of (id_of h0)

    -- the blocks behind this one are fair
    On : Type 0
    On = (b : List ℕ) (l : List (List ℕ)) (a : List ℕ) → Sound l → Fair (blocks turns b l a)

    next : Table → ℕ → List ℕ → Framed
    next t sum after = blocks turns (before ++ (h0 ∷ h1 ∷ h2 ∷ (take n rest ++ (sum ∷ [])))) (put lists t (take n rest)) after

    follow : Table → Framed
    follow t = checked (take n rest) (drop n rest) (next t)

    seven : On → (t : Table) (sum : ℕ) (after : List ℕ) (wrong : Bool) → Passes t (length (take n rest)) (had lists t)
        → Fair (cond wrong (refused 7) (next t sum after))
    seven on t sum after true ok = tt
    seven on t sum after false ok =
        on (before ++ (h0 ∷ h1 ∷ h2 ∷ (take n rest ++ (sum ∷ [])))) (put lists t (take n rest)) after (sound_put lists sound t (take n rest) ok)

    brought : On → (t : Table) → Passes t n (had lists t) → (left : List ℕ) → drop n rest ≡ left → Fair (checked (take n rest) left (next t))
    brought on t ok [] q = tt
    brought on t ok (sum ∷ after) q =
        let long : length (take n rest) ≡ n = length-take n rest ∙ min-eq_left (omega (arith, simp length-drop at (ap length q))) in
        seven on t sum after (not (eqb sum (checksum (take n rest)))) (subst (λ (x : ℕ). Passes t x (had lists t)) (sym long) ok)

    header : On → (x : Header) → header_of b n (had lists) ≡ x → Fair (headed_by x follow)
    header on (Wrong number) e = tt
    header on (Right t) e = brought on t (right b n (had lists) t e).passes (drop n rest) refl

    end : On → (z s8 s2 : Bool) → Fair (cond z (cond s8 (refused 8) (passed lists)) (cond s2 (refused 2) (headed_by (header_of b n (had lists)) follow)))
    end on true true s2 = tt
    end on true false s2 = sound
    end on false s8 true = tt
    end on false s8 false = header on (header_of b n (had lists)) refl

-- a list for each table, of whole entries, and none above its most entries
pub passed_sound : (words : List ℕ) (lists : List (List ℕ)) → framed words ≡ passed lists → Sound lists
unfolding framed
passed_sound words lists e = subst Fair e (whole words)
  where
    whole : (words : List ℕ) → Fair (framed words)
    whole [] = tt
    whole (w ∷ ws) = go (not (eqb w device))
      where
        go : (t : Bool) → Fair (cond t (refused 1) (blocks (length ws) (w ∷ []) none ws))
        go true = tt
        go false = fair (length ws) (w ∷ []) none ws sound_none

-- a stream that passes with these lists, loaded: its image is that of the lists
module _ (lists : List (List ℕ)) (buffer : List ℕ) where
  abbrev from_lists : Bool → Outcome
  from_lists t = cond t (record { number = 0; image = image_of lists }) (refused_with (ruled (image_of lists)))

  ended_image : (t : Bool) → eqb (ruled (image_of lists)) 0 ≡ t → (into (from_lists t) buffer).answer ≡ Loaded → image_in (into (from_lists t) buffer).buffer ≡ image_of lists
  ended_image true h e = image_of_lem 1 lists (drop image_words buffer)
  ended_image false h e =
      let refuses : numbered (ruled (image_of lists)) ≡ Refused (ruled (image_of lists)) =
      ap (λ (t : Bool). cond t Loaded (Refused (ruled (image_of lists)))) h in
      absurd (let z : ◌≡◌ {A = ℕ} 0 1 = cc in omega arith)

  whole_image : (words : List ℕ) → framed words ≡ passed lists → (t : Bool) → (cond t (as_found 31 buffer) (into (loaded words) buffer)).answer ≡ Loaded
      → image_in (cond t (as_found 31 buffer) (into (loaded words) buffer)).buffer ≡ image_of lists
  whole_image words e true h = absurd (let z : ◌≡◌ {A = ℕ} 0 1 = cc in omega arith)
  whole_image words e false h =
      let is : into (loaded words) buffer ≡ into (from_lists (eqb (ruled (image_of lists)) 0)) buffer = ap (λ (f : Framed). into (outcome_of f) buffer) e in
      ap (λ (w : Whole). image_in w.buffer) is ∙ ended_image (eqb (ruled (image_of lists)) 0) refl (sym (ap (λ (w : Whole). w.answer) is) ∙ h)

module _ (buffer words : List ℕ) {after : List ℕ} {answer : Answer} (lists : List (List ℕ)) (p : Ends (loaded_words buffer words) answer after) (loads : answer ≡ Loaded)
    (passes : framed words ≡ passed lists) where
  -- "all fixed by the entry lists alone"
  pub image_is_the_lists : image_in after ≡ image_of lists
  unfolding loaded_words
  image_is_the_lists = ap image_in p.kept ∙ whole_image lists buffer words passes (too_short buffer) (sym p.told ∙ loads)

  -- as many entries of each table as its list has
  pub gives_back_the_count : (t : Table) → count_of (image_in after) t * size_of t ≡ length (list_of lists t)
  gives_back_the_count t =
      ap (λ (i : List ℕ). count_of i t * size_of t) image_is_the_lists
      ∙ ap (λ (x : ℕ). x * size_of t) (layout_count 1 lists t)
      ∙ (passed_sound words lists passes).whole t

  -- and each of them
  pub gives_back_each_entry : (t : Table) (i : ℕ) → i * size_of t + size_of t ≤ length (list_of lists t)
      → entry_of (image_in after) t i ≡ take (size_of t) (drop (i * size_of t) (list_of lists t))
  gives_back_each_entry t i inside =
      ap (λ (x : List ℕ). entry_of x t i) image_is_the_lists ∙ layout_entry 1 lists t i ((passed_sound words lists passes).fits t) inside
