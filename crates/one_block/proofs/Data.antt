-- A write inside a block that brings data of this block alone: its tests, and what it leaves.
use Rattle.std.proofs.Common.{◌≡◌, refl, sym, ◌∙◌, ap, subst, Bool, true, false, cond, true≢false, List, ℕ, zero, suc, ◌+◌, ◌-◌, ◌<◌, ◌≤◌, mul_comm, zero-lt-suc, arith, ltb, length, ltb-false}
use Rattle.std.specs.Prelude.{Some, None}
use Rattle.std.proofs.lemmas.List.Edits.{sets}
use Rattle.crc.specs.Crc.{words_in}
use Rattle.image.specs.Layout.{image_words, entry_words, image_in}
use Rattle.image.specs.Loaded.{over_limit}
use Rattle.image.specs.Rows.{size_of, most_of}
use Rattle.image.specs.RowLaws.{room_inside}
use Rattle.image.specs.declared.tables.Table.{Table}
use Rattle.stream.specs.Fine.{Roomy}
use Rattle.stream.specs.FineLaws.{undamaged_fine}
use Rattle.stream.specs.Machine.{Machine, at, filling, place_in, begun, overdue_in, beyond, damaged, outside, run, written, wrote}
use Rattle.stream.specs.declared.Answer.TheVariants.{More}
use Rattle.stream.specs.declared.Load.{Load}
use Rattle.stream.specs.declared.Phase.{Phase}
use Rattle.stream.specs.declared.Phase.TheVariants.{Data}
use Rattle.one_block.specs.Data.{data_place}
use Rattle.placing.proofs.RefusalWrites.{wrote_run, opened_begun}
use Rattle.one_block.proofs.Laws.{data_run}

-- ---- a place in the image: each test has failed

record Passed (buffer : List ℕ) (t : Table) (placed due n r : ℕ) : Type 0 where
  some : outside n ≡ false
  fits : n ≤ due
  within : over_limit (image_in buffer) ≡ false
  room : beyond (image_in buffer) t placed due ≡ false
  is : r ≡ place_in buffer t placed

all_failed : (a b c d : Bool) (p r : ℕ) → Some r ≡ cond a None (cond b None (cond c None (cond d None (Some p))))
    → (a ≡ false) × (b ≡ false) × (c ≡ false) × (d ≡ false) × (r ≡ p)
all_failed true b c d p r h = absurd (cc)
all_failed false true c d p r h = absurd (cc)
all_failed false false true d p r h = absurd (cc)
all_failed false false false true p r h = absurd (cc)
all_failed false false false false p r h = (refl, refl, refl, refl, cc)

passed : (buffer : List ℕ) (t : Table) (placed due n r : ℕ) → Some r ≡ data_place buffer t placed due n → Passed buffer t placed due n r
unfolding data_place
passed buffer t placed due n r e =
    let q = all_failed (outside n) (ltb due n) (over_limit (image_in buffer)) (beyond (image_in buffer) t placed due) (place_in buffer t placed) r e in
    record { some = q.0; fits = ltb-false due n q.1; within = q.2; room = q.3; is = q.4 }

-- ---- what the write leaves

-- 32's test failed: there is a word
pub some_word : (n : ℕ) → outside n ≡ false → 0 < n
some_word zero h = absurd (true≢false h)
some_word (suc n) h = zero-lt-suc n

pub record DataWrite (l : Load) (buffer words : List ℕ) (place : ℕ) : Type 0 where
  pub some : 0 < length words
  pub fits : length words ≤ l.due
  pub small : l.placed + length words ≤ entry_words
  pub inside : place + length words ≤ entry_words
  pub leaves : wrote l buffer words ≡ record {
    answer = More;
    load = filling l.table (l.placed + length words) (l.due - length words) (words_in l.stream words) (words_in l.block words);
    buffer = sets buffer place words;
  }

module _ (l : Load) (buffer words : List ℕ) (place : ℕ) (whole : image_words ≤ length buffer) (in_block : l.phase ≡ Data)
    (is : Some place ≡ data_place buffer l.table l.placed l.due (length words)) where
  passes : Passed buffer l.table l.placed l.due (length words) place
  passes = passed buffer l.table l.placed l.due (length words) place is

  undamaged : damaged l (image_in buffer) ≡ false
  undamaged =
      ap (λ (p : Phase). cond (begun p) (cond (over_limit (image_in buffer)) true (overdue_in p l (image_in buffer))) false) in_block
      ∙ ap (λ (t : Bool). cond t true (beyond (image_in buffer) l.table l.placed l.due)) passes.within
      ∙ passes.room

  roomy : Roomy Data l buffer
  roomy = subst (λ (p : Phase). Roomy p l buffer) in_block (undamaged_fine l buffer whole (ap begun in_block) undamaged).roomy

  by_run : written (run (at l buffer) words) ≡ wrote l buffer words
  by_run =
      ap (λ (m : Machine). written (run m words)) (opened_begun l buffer true (sym (ap begun in_block)) refl)
      ∙ wrote_run l buffer words (record { whole = whole; undamaged = undamaged; some = passes.some })

  -- what is due lies among the entries
  ends : place + l.due ≤ entry_words
  ends = omega (arith, roomy, passes.is, room_inside l.table, mul_comm (most_of l.table) (size_of l.table))

  some : 0 < length words
  some = some_word (length words) passes.some

  inside : place + length words ≤ entry_words
  inside = omega (arith, ends, passes.fits)

  pub data_write : DataWrite l buffer words place
  data_write =
      record {
        some = some;
        fits = passes.fits;
        small = omega (arith, ends, passes.is, passes.fits);
        inside = inside;
        leaves = sym (ap written (data_run l buffer words (sets buffer place words) place _ _ in_block some passes.fits inside passes.is refl refl refl) ∙ by_run);
      }
