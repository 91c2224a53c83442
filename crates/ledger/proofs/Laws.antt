-- What a store into one part leaves of the others, and what the tests behind 31, 30 and 39 tell once they have passed.
use Rattle.std.specs.Prelude.{◌≡◌, Result, IsErrAnd, ℕ, ◌+◌, ◌-◌, ◌*◌, ◌^◌, ◌<◌, Bool, true, false, cond, List, [], ◌∷◌, length, ◌==◌, ◌≢◌, nat_le, nat_lt, slice_index, slice_set, refl}
use Rattle.std.proofs.Common.{sym, ◌∙◌, subst, mod-lt, arith, pow_pos, length-set, get_or-set_same, get_or-set_other, ltb-false, leb-true, eqb-true}
use Rattle.std.proofs.lemmas.Bool.{eqb-false}
use Rattle.laws.specs.Chain.{not_zero, none_first, none_rest, zero_first, zero_rest}
use Rattle.laws.specs.ScanLaws.{none_at}
use Rattle.image.specs.Layout.{image_words, image_in}
use Rattle.fields.specs.Fields.{part_spc}
use Rattle.image.specs.Loaded.{too_short, not_loaded}
use Rattle.image.specs.Sound.{Sound}
use Rattle.image.specs.SoundLaws.{sound}
use Rattle.ledger.specs.Row.{parts, units, credit, since, frames, drops, octets, dropped, last, many, cell_count, cell}
use Rattle.ledger.specs.Range.{latest, units_over, credit_over, octets_off, counts_off, tiles_off, times_over, out_of_range, unloaded, standing}
use Rattle.ledger.specs.Stands.{Counted, InRange, Stands}
use Rattle.ledger.specs.declared.refusal.Refusal.{Refusal}
use Rattle.ledger.specs.Refusals.{number_of, refused_by}
use Rattle.ledger.specs.RefusalsLaws.{refused, handed_on}

-- ---- stores into the row

-- how many cells the part has that starts at a
abbrev size_from : ℕ → List ℕ → ℕ
size_from a [] = 0
size_from a (n ∷ ns) = cond (a == 0) n (size_from (a - n) ns)

abbrev size : ℕ → ℕ
size a = size_from a parts

abbrev apart : ℕ → ℕ → Bool
apart a b = cond (nat_le (a + size a) b) true (nat_le (b + size b) a)

-- a store into the part that starts at a leaves every cell of another
pub other_part : (g : List ℕ) (a i b j v : ℕ) → i < size a → j < size b → apart a b ≡ true → slice_index (slice_set g (a + i) v) (b + j) ≡ slice_index g (b + j)
other_part g a i b j v h k t = get_or-set_other g (a + i) (b + j) v 0 (λ q. by (nat_le (a + size a) b) refl t (sym q))
  where
    by : (x : Bool) → x ≡ nat_le (a + size a) b → cond x true (nat_le (b + size b) a) ≡ true → a + i ≢ b + j
    by true e u q = let l = leb-true (a + size a) b (sym e) in omega arith
    by false e u q = let l = leb-true (b + size b) a u in omega arith

-- and is read back
pub read_back : (g : List ℕ) (a i v : ℕ) → length g ≡ cell_count → i < size a → nat_le (a + size a) cell_count ≡ true → slice_index (slice_set g (a + i) v) (a + i) ≡ v
read_back g a i v e h t = let l = leb-true (a + size a) cell_count t in get_or-set_same g (a + i) v 0 (omega arith)

-- a store at i of a part leaves its other cells
pub other_place : (g : List ℕ) (a i j v : ℕ) → (i ≢ j) → slice_index (slice_set g (a + i) v) (a + j) ≡ slice_index g (a + j)
other_place g a i j v ne = get_or-set_other g (a + i) (a + j) v 0 (λ q. ne (omega arith))

pub ruleset cells = (other_part, read_back, length-set)

pub counted : (frames drops octets dropped : ℕ) → counts_off frames drops octets dropped ≡ false → Counted frames drops octets dropped
unfolding octets_off
counted frames drops octets dropped e =
    let e2 = none_rest (nat_lt frames drops) _ e in
    let e3 = none_rest (octets_off frames octets) _ e2 in
    let o = none_first (octets_off frames octets) _ e2 in
    let d = none_first (octets_off drops dropped) _ e3 in
    record {
      fewer = ltb-false frames drops (none_first (nat_lt frames drops) _ e);
      least = ltb-false octets (4 * frames) (none_first (nat_lt octets (4 * frames)) _ o);
      most = ltb-false (4100 * frames) octets (none_rest (nat_lt octets (4 * frames)) _ o);
      dropped_least = ltb-false dropped (4 * drops) (none_first (nat_lt dropped (4 * drops)) _ d);
      dropped_most = ltb-false (4100 * drops) dropped (none_rest (nat_lt dropped (4 * drops)) _ d);
      within = ltb-false octets dropped (none_rest (octets_off drops dropped) _ e3);
    }

pub in_range : (image g : List ℕ) → out_of_range image g ≡ false → InRange image g
unfolding out_of_range
in_range image g e =
    let e2 = none_rest (units_over image g) _ e in
    let e3 = none_rest (credit_over image g) _ e2 in
    let e4 = none_rest (tiles_off g) _ e3 in
    record {
      spaced = λ j h. ltb-false _ _ (none_at (many units) j _ (none_first (units_over image g) _ e) h);
      metered = λ k h. ltb-false _ _ (none_at (many credit) k _ (none_first (credit_over image g) _ e2) h);
      tiled = λ p h. counted _ _ _ _ (none_at (many frames) p _ (none_first (tiles_off g) _ e3) h);
      timed = λ k h. ltb-false _ _ (none_at (many since) k _ (none_first (times_over g) _ e4) h);
      early = ltb-false latest (cell g last 0) (none_rest (times_over g) _ e4);
    }

-- what a call that 31 and 30 do not refuse has
pub loaded : (buffer : List ℕ) → unloaded buffer ≡ 0 → Sound buffer
unfolding unloaded
loaded buffer e =
    sound buffer (ltb-false (length buffer) image_words (zero_first (too_short buffer) 30 _ e))
    (zero_first (not_loaded (image_in buffer)) 29 _ (zero_rest (too_short buffer) 30 _ e))

-- and by a number r that a call handed over
pub loaded_as : (buffer : List ℕ) (r : ℕ) → r ≡ unloaded buffer → r ≡ 0 → Sound buffer
loaded_as buffer r e z = loaded buffer (sym e ∙ z)

pub stands : (buffer g : List ℕ) → standing buffer g ≡ 0 → Stands buffer g
unfolding standing
stands buffer g e = by (unloaded buffer == 0) refl e
  where
    by : (t : Bool) → t ≡ (unloaded buffer == 0) → cond t (cond (out_of_range (image_in buffer) g) 39 0) (unloaded buffer) ≡ 0 → Stands buffer g
    by true h q =
        record { image = loaded buffer (eqb-true (unloaded buffer) 0 (sym h)); ledger = in_range (image_in buffer) g (zero_first (out_of_range (image_in buffer) g) 38 _ q) }
    by false h q = absurd (eqb-false (unloaded buffer) 0 (sym h) q)

-- by a number r that a call handed over
pub sound_as : (buffer g : List ℕ) (r : ℕ) → r ≡ standing buffer g → r ≡ 0 → Sound buffer
sound_as buffer g r e z = (stands buffer g (sym e ∙ z)).image

-- a refusal e that a call handed over is handed on, where the definition asks that call's number n first
pub handed_first : {T : Type 0} (r : Result T Refusal) (e : Refusal) (n x : ℕ) → IsErrAnd r (λ f. f ≡ e) → number_of e ≡ n → refused_by r ≡ cond (n == 0) x n
handed_first r e n x h q = handed_on r e h ∙ not_zero (number_of e) n (number_of e) x n q (refused e) q

-- a partition's space has ten bits
pub part_spc_small : (image : List ℕ) (j : ℕ) → part_spc image j < 1024
part_spc_small image j =
    subst (λ (k : ℕ). part_spc image j < 2 ^ k) {y = 10} (omega arith) (mod-lt _ (pow_pos (22 + 10 * j - (13 + 10 * j) + 1)))
