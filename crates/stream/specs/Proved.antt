-- Rows (c), (d) and (e) of document 01's proved table, the length of a block of 07 with no entry there yet; and the same for 12.
use Rattle.std.specs.Prelude.{◌≡◌, refl}
use Rattle.image.specs.Blocks.{block_of}
use Rattle.image.specs.declared.tables.Table.TheVariants.{VlanLookup, Retagging}
use Rattle.stream.specs.Header.{Wrong, Right, header_of}

-- (c) length 3: 5
pub row_c : header_of (block_of 0x07) 3 (λ t. 0) ≡ Wrong 5
unfolding block_of
row_c = refl

-- (d) 8192: fits
pub row_d : header_of (block_of 0x07) 8192 (λ t. 0) ≡ Right VlanLookup
unfolding block_of
row_d = refl

-- (e) 8194: 6
pub row_e : header_of (block_of 0x07) 8194 (λ t. 0) ≡ Wrong 6
unfolding block_of
row_e = refl

-- ---- block 12: "two-word entries, at most 32"
pub retagging_odd : header_of (block_of 0x12) 3 (λ t. 0) ≡ Wrong 5
unfolding block_of
retagging_odd = refl

pub retagging_fits : header_of (block_of 0x12) 64 (λ t. 0) ≡ Right Retagging
unfolding block_of
retagging_fits = refl

-- the 33rd entry, over all its blocks
pub retagging_over : header_of (block_of 0x12) 2 (λ t. 32) ≡ Wrong 6
unfolding block_of
retagging_over = refl
