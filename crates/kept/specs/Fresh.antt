-- What the cells of a fresh ledger are.
use Rattle.std.specs.Prelude.{◌≡◌, refl, List, ℕ, ◌+◌, ◌<◌, ◌≤◌, length, get_or}
use Rattle.std.proofs.Common.{sym, ◌∙◌, arith}
use Rattle.laws.specs.Chain.{pass_lt}
use Rattle.fields.specs.Fields.{part_spc}
use Rattle.ledger.specs.Row.{units, credit, since, start, many, cell_count, cell}
use Rattle.ledger.specs.Range.{full_of}
use Rattle.row.specs.FreshLaws.{length_table, table_at, fresh_partition, fresh_meter}
use Rattle.row.specs.Fresh.{fresh_cell, fresh_of}

pub fresh_length : (image : List ℕ) → length (fresh_of image) ≡ cell_count
unfolding fresh_of
fresh_length image = length_table cell_count (fresh_cell image)

pub fresh_units : (image : List ℕ) (j : ℕ) → j < many units → cell (fresh_of image) units j ≡ part_spc image j
unfolding fresh_of
fresh_units image j h = table_at cell_count (start units + j) (fresh_cell image) (omega arith) ∙ sym (fresh_partition image j (part_spc image j) h refl)

pub fresh_credit : (image : List ℕ) (k : ℕ) → k < many credit → cell (fresh_of image) credit k ≡ full_of image k
unfolding fresh_of
fresh_credit image k h = table_at cell_count (start credit + k) (fresh_cell image) (omega arith) ∙ sym (fresh_meter image k (full_of image k) h refl)

-- "times and tiles 0": every place from the times on
pub fresh_zero : (image : List ℕ) (a i : ℕ) → start since ≤ a + i → a + i < cell_count → get_or (fresh_of image) (a + i) 0 ≡ 0
unfolding fresh_of
fresh_zero image a i l h =
    table_at cell_count (a + i) (fresh_cell image) h
    ∙ sym (pass_lt (a + i) (start credit) 0 _ _ (omega arith) (pass_lt (a + i) (start since) 0 _ 0 l refl))
