-- A list is a table of CRC-32 if it passes one computed test: its first row of 256 holds the entries, each made of those at the powers of two
-- (crc's Arm), and each later one stands a byte after the entry a row before it. The test takes eight steps an entry, where the rule takes up to 128.
use Rattle.std.specs.Prelude.{◌≡◌, refl, List, [], ◌∷◌, ℕ, zero, suc, ◌+◌, ◌*◌, ◌/◌, ◌%◌, ◌<◌, T, eqb, length, get_or, take, drop}
use Rattle.std.proofs.Common.{sym, ap, ap₂, ◌∙◌, zero-add, not-suc-le-zero, le_of_suc-le-suc, arith, eqb→eq, length-drop, get_or-take, get_or-drop, length-take-le}
use Rattle.std.proofs.Math.Dec.{eqb_refl}
use Rattle.laws.specs.TableLaws.{both_left, both_right, tested}
use Rattle.laws.specs.Table.{holds}
use Rattle.crc.specs.Crc.{bits_out}
use Rattle.crc.proofs.Laws.{bits_out_add}
use Rattle.crc.specs.Arm.{pick}
use Rattle.crc.proofs.ArmLaws.{bits_linear, arm}
use Rattle.crc_table.specs.Table.{entry, IsTable}
use Rattle.crc_table.specs.Test.{follows, powers, passes}

follows_at : (xs ys : List ℕ) → T (follows xs ys) → (k : ℕ) → k < length ys → get_or ys k 0 ≡ bits_out 8 (get_or xs k 0)
follows_at xs [] t k h = absurd (not-suc-le-zero h)
follows_at [] (y ∷ ys) t k h = absurd t
follows_at (x ∷ xs) (y ∷ ys) t zero h = eqb→eq y (bits_out 8 x) (both_left (eqb y (bits_out 8 x)) (follows xs ys) t)
follows_at (x ∷ xs) (y ∷ ys) t (suc k) h =
    follows_at xs ys (both_right (eqb y (bits_out 8 x)) (follows xs ys) t) k (le_of_suc-le-suc h)

entry_after : (n i : ℕ) → bits_out 8 (entry n i) ≡ entry n (256 + i)
unfolding entry
entry_after n i =
    sym (bits_out_add (32 * n + 8 * (i / 256 + 1)) 8 (i % 256)) ∙ ap₂ bits_out (omega arith) (omega arith)

pick_entry : (n b : ℕ) → b < 256 → pick (powers n) b ≡ entry n b
unfolding entry
pick_entry n b h =
    arm (bits_linear (32 * n + 8)) (powers n) b (pick (powers n) b) b refl h (eqb_refl (pick (powers n) b)) refl
    ∙ ap₂ bits_out (omega arith) (omega arith)

module _ (n : ℕ) (l : List ℕ) (t : T (passes (powers n) l)) (e : length l ≡ 1024) where
  first_row : (b : ℕ) → b < 256 → get_or l b 0 ≡ entry n b
  first_row b h =
      sym (get_or-take 256 l b 0 h)
      ∙ tested (pick (powers n)) (take 256 l) (both_left (holds (pick (powers n)) 0 (take 256 l)) (follows l (drop 256 l)) t) b
      (rw (length-take-le 256 l (omega arith)) h)
      ∙ pick_entry n b h

  rows : (m b : ℕ) → b < 256 → 256 * m + b < 1024 → get_or l (256 * m + b) 0 ≡ entry n (256 * m + b)
  rows zero b h g = rw (zero-add b) (first_row b h)
  rows (suc m) b h g =
      let k : 256 * suc m + b ≡ 256 + (256 * m + b) = omega arith in
      rw k
      (sym (get_or-drop 256 l (256 * m + b) 0)
      ∙ follows_at l (drop 256 l) (both_right (holds (pick (powers n)) 0 (take 256 l)) (follows l (drop 256 l)) t) (256 * m + b)
      (rw (length-drop 256 l) (omega arith))
      ∙ ap (bits_out 8) (rows m b h (omega arith))
      ∙ entry_after n (256 * m + b))

  pub is_table : IsTable n l
  is_table = record { at = at_each } where
    at_each : (i : ℕ) → i < 1024 → get_or l i 0 ≡ entry n i
    at_each i h =
        let k : 256 * (i / 256) + i % 256 ≡ i = omega arith in
        rw k at (rows (i / 256) (i % 256) (omega arith) (omega arith))
