-- Rows (f) and (g) of document 01's proved table: the eight PART_SPC of an image and rule 24.
use Rattle.std.specs.Prelude.{◌≡◌, true, false, List, ℕ, ltb}
use Rattle.std.proofs.Common.{ap}
use Rattle.laws.specs.Scan.{total}
use Rattle.fields.specs.Fields.{part_spc}
use Rattle.broken.specs.Broken.{space_over}

-- (f) partition sum 929 passes
pub row_f : (image : List ℕ) → total 8 (λ j. part_spc image j) ≡ 929 → space_over image ≡ false
row_f image e = ap (λ (sum : ℕ). ltb 929 sum) e

-- (g) 930: 24
pub row_g : (image : List ℕ) → total 8 (λ j. part_spc image j) ≡ 930 → space_over image ≡ true
row_g image e = ap (λ (sum : ℕ). ltb 929 sum) e
