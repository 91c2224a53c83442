-- What each way through a write leaves, and that data of one block alone leave on the numbers what `wrote_flat` says.
use Rattle.std.proofs.Common.{◌≡◌, refl, sym, ◌∙◌, ap, ap₂, subst, Bool, true, false, cond, not, List, [], ◌∷◌, ℕ, ◌+◌, ◌-◌, ◌<◌, ◌≤◌, arith, leb, eqb, length, get_or, drop, ltb-false, leb-false, lt-ltb, eqb-true}
use Rattle.std.specs.Prelude.{Option, Some, None}
use Rattle.std.proofs.lemmas.List.Edits.{sets}
use Rattle.std.proofs.lemmas.Bool.{not-false}
use Rattle.laws.specs.Chain.{hit, pass}
use Rattle.crc.specs.Crc.{words_in}
use Rattle.crc_both.specs.declared.Both.{Both}
use Rattle.image.specs.Layout.{image_words}
use Rattle.image.specs.Loaded.{too_short}
use Rattle.image.specs.Rows.{index_of, table_count}
use Rattle.image.specs.declared.tables.Table.{Table}
use Rattle.stream.specs.Machine.{filling, Written, wrote}
use Rattle.stream.specs.Paper.{Whole}
use Rattle.stream.specs.declared.Answer.{Answer}
use Rattle.stream.specs.declared.Load.{Load}
use Rattle.one_block.specs.Data.{data_place}
use Rattle.stream.specs.Leaves.{Writes, Ends}
use Rattle.stream.specs.declared.states.Wrote.{Wrote}
use Rattle.one_block.proofs.Data.{DataWrite, data_write}
use Rattle.flat_numbers.specs.Flat.{low, high, joined, phase_of, table_of, table_in, load_in, is_state, is_load, numbers_of, stored_in, moved, number_of}
use Rattle.flat_states.specs.Round.{joined_halves, put_back, table_kept}
use Rattle.flat_loads.specs.Calls.{FlatWritten, flattened, as_found_flat, wrote_flat, WritesFlat, EndsFlat}
use Rattle.flat_loads.specs.Through.{of_state}
use Rattle.flat_loads.specs.Data.{flat_place, Fits, Takes}

-- a whole load's answer by its number
pub ends_flat : (w : Whole) (answer : Answer) (r : ℕ) (after : List ℕ) → Ends w answer after → r ≡ number_of answer → EndsFlat w r after
ends_flat w answer r after e n = record { told = n ∙ ap number_of e.told; kept = e.kept }

-- ---- any write
module _ (c buffer words : List ℕ) where
  writes_as : (w : FlatWritten) (r : ℕ) (after kept : List ℕ) → w ≡ wrote_flat c buffer words → r ≡ w.answer → after ≡ w.numbers → kept ≡ w.buffer
      → WritesFlat c buffer words r after kept
  writes_as w r after kept e a s k =
      record {
        answer = a ∙ ap (λ (x : FlatWritten). x.answer) e;
        state = s ∙ ap (λ (x : FlatWritten). x.numbers) e;
        image = k ∙ ap (λ (x : FlatWritten). x.buffer) e;
      }

  pub writes_31 : (short : Bool) → short ≡ too_short buffer → short ≡ true → WritesFlat c buffer words 31 c buffer
  unfolding wrote_flat
  writes_31 short e h = writes_as (as_found_flat 31 c buffer) _ _ _ (hit short (too_short buffer) _ _ e h) refl refl refl

  pub writes_30 : (short is : Bool) → short ≡ too_short buffer → short ≡ false → is ≡ is_load c → not is ≡ true → WritesFlat c buffer words 30 c buffer
  unfolding wrote_flat
  writes_30 short is e h d g =
      writes_as (as_found_flat 30 c buffer) _ _ _ (pass short (too_short buffer) _ _ _ e h (hit (not is) (not (is_load c)) _ _ (ap not d) g)) refl refl refl

  pub writes_on : (is : Bool) (l : Load) (w : Wrote) (r : ℕ) (after kept : List ℕ) → is ≡ is_load c → not is ≡ false → l ≡ load_in c
      → Writes l buffer words w kept
      → after ≡ stored_in c w.load
      → r ≡ number_of w.answer
      → WritesFlat c buffer words r after kept
  writes_on is l w r after kept d g e x s n =
      let by : Load → Written = λ m. wrote m buffer words in
      writes_as (flattened c (by (load_in c))) r after kept (sym (of_state c buffer words (sym d ∙ not-false is g)))
      (n ∙ ap number_of (x.answer ∙ ap (λ (m : Load). (by m).answer) e))
      (s ∙ ap (stored_in c) (x.state ∙ ap (λ (m : Load). (by m).load) e))
      (x.kept ∙ ap (λ (m : Load). (by m).buffer) e)

-- ---- a place in the image: each test has failed

-- the place of a block's data, by its table
pub place_by : (buffer : List ℕ) (t : Table) (k placed due n : ℕ) (r : Option ℕ) → r ≡ data_place buffer t placed due n → t ≡ table_of k
    → r ≡ data_place buffer (table_of k) placed due n
place_by buffer t k placed due n r p e = p ∙ ap (λ (x : Table). data_place buffer x placed due n) e

record Passed (c buffer : List ℕ) (n r : ℕ) : Type 0 where
  whole : too_short buffer ≡ false
  in_block : low (get_or c 0 0) ≡ 4
  table : low (get_or c 1 0) < table_count
  own : (load_in c).table ≡ table_of (low (get_or c 1 0))
  is : Some r ≡ data_place buffer (load_in c).table (load_in c).placed (load_in c).due n

all_failed : (x y z : Bool) (p : Option ℕ) (r : ℕ) → Some r ≡ cond x None (cond y None (cond z None p))
    → (x ≡ false) × (y ≡ false) × (z ≡ false) × (Some r ≡ p)
all_failed true y z p r h = absurd (cc)
all_failed false true z p r h = absurd (cc)
all_failed false false true p r h = absurd (cc)
all_failed false false false p r h = (refl, refl, refl, h)

passed : (c buffer : List ℕ) (n r : ℕ) → Some r ≡ flat_place c buffer n → Passed c buffer n r
unfolding flat_place
passed c buffer n r e =
    let q = all_failed (too_short buffer) (not (eqb (low (get_or c 0 0)) 4)) (leb table_count (low (get_or c 1 0))) _ r e in
    let here = eqb-true (low (get_or c 0 0)) 4 (not-false (eqb (low (get_or c 0 0)) 4) q.1) in
    let own : (load_in c).table ≡ table_of (low (get_or c 1 0)) = ap (λ (p : ℕ). table_in (phase_of p (high (get_or c 0 0))) (low (get_or c 1 0))) here in
    record {
      whole = q.0;
      in_block = here;
      table = leb-false table_count (low (get_or c 1 0)) q.2;
      own = own;
      is = q.3 ∙ ap (λ (t : Table). data_place buffer t (get_or c 2 0) (get_or c 3 0) n) (sym own);
    }

-- ---- what the write leaves

-- a write of one word
one_word : (words : List ℕ) → length words ≡ 1 → words ≡ get_or words 0 0 ∷ []
one_word [] h = absurd (omega arith)
one_word (w ∷ []) h = refl
one_word (w ∷ v ∷ words) h = absurd (omega arith)

module _ (c buffer words : List ℕ) (place : ℕ) (e : Some place ≡ flat_place c buffer (length words)) where
  passes : Passed c buffer (length words) place
  passes = passed c buffer (length words) place e

  whole : image_words ≤ length buffer
  whole = ltb-false (length buffer) image_words passes.whole

  by_data : DataWrite (load_in c) buffer words place
  by_data = data_write (load_in c) buffer words place whole (ap (λ (n : ℕ). phase_of n (high (get_or c 0 0))) passes.in_block) passes.is

  is_load_lem : is_load c ≡ true
  is_load_lem = ap (λ (n : ℕ). is_state n (high (get_or c 0 0)) (low (get_or c 1 0))) passes.in_block ∙ lt-ltb (low (get_or c 1 0)) table_count passes.table

  -- inside a block the phase and the table are stored as they stand
  stays : (n s b : ℕ) → stored_in c (filling (load_in c).table (get_or c 2 0 + n) (get_or c 3 0 - n) s b) ≡ moved c n (joined s b)
  stays n s b =
      let vs : List ℕ = numbers_of c (filling (load_in c).table (get_or c 2 0 + n) (get_or c 3 0 - n) s b) in
      put_back c 0 _ (drop 1 vs) (ap (λ (p : ℕ). joined p (high (get_or c 0 0))) (sym passes.in_block) ∙ joined_halves (get_or c 0 0))
      ∙ put_back c 1 _ (drop 2 vs) (ap (λ (t : Table). joined (index_of t) (high (get_or c 1 0))) passes.own ∙ table_kept _ _ passes.table ∙ joined_halves (get_or c 1 0))

  pub flat_data : wrote_flat c buffer words ≡ record {
    answer = 0xFFFFFFFF;
    numbers = moved c (length words) (joined (words_in (load_in c).stream words) (words_in (load_in c).block words));
    buffer = sets buffer place words;
  }
  flat_data =
      of_state c buffer words is_load_lem
      ∙ ap (flattened c) by_data.leaves
      ∙ ap (λ (l : List ℕ). record { answer = 0xFFFFFFFF; numbers = l; buffer = sets buffer place words })
      (stays (length words) (words_in (load_in c).stream words) (words_in (load_in c).block words))

  -- so the words fit, and a write that took them there is the one that is promised
  pub fits_words : Fits c buffer words place
  fits_words = record { inside = omega (arith, whole, by_data.inside); due = by_data.fits; placed = omega (arith, by_data.small) }

  pub fits_word : length words ≡ 1 → Fits c buffer (get_or words 0 0 ∷ []) place
  fits_word one = subst (λ (l : List ℕ). Fits c buffer l place) (one_word words one) fits_words

  pub writes_words : (r : ℕ) (after kept : List ℕ) → Takes c buffer words place r after kept → WritesFlat c buffer words r after kept
  writes_words r after kept t = writes_as c buffer words _ r after kept (sym flat_data) t.more t.moves t.stored

  pub writes_word : (r : ℕ) (after kept : List ℕ) → length words ≡ 1 → Takes c buffer (get_or words 0 0 ∷ []) place r after kept
      → WritesFlat c buffer words r after kept
  writes_word r after kept one t = writes_words r after kept (subst (λ (l : List ℕ). Takes c buffer l place r after kept) (sym (one_word words one)) t)

-- the registers over the words, and the numbers moved by them
pub takes : (c buffer words : List ℕ) (place : ℕ) (s t : Both) (after kept : List ℕ) → (s.block ≡ (load_in c).block) × (s.stream ≡ (load_in c).stream)
    → (t.block ≡ words_in s.block words) × (t.stream ≡ words_in s.stream words)
    → after ≡ moved c (length words) (joined t.stream t.block)
    → kept ≡ sets buffer place words
    → Takes c buffer words place 0xFFFFFFFF after kept
takes c buffer words place s t after kept p q e k =
    let by : ℕ → ℕ = λ x. words_in x words in
    record { more = refl; moves = e ∙ ap₂ (λ (x y : ℕ). moved c (length words) (joined x y)) (q.1 ∙ ap by p.1) (q.0 ∙ ap by p.0); stored = k }
