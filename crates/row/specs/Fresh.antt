-- A fresh ledger (document 01): "takes only an image (31, 30): partitions at PART_SPC, meters full (0 with no entry loaded), times and tiles 0".
use Rattle.std.specs.Prelude.{◌≡◌, cond, List, [], ◌∷◌, ◌++◌, ℕ, zero, suc, ◌-◌, ◌≤◌, ltb, eqb, length, replicate}
use Rattle.image.specs.Layout.{image_in}
use Rattle.fields.specs.Fields.{part_spc}
use Rattle.ledger.specs.Answers.{Answer, answer_of, said_of}
use Rattle.ledger.specs.Row.{credit, since, last, start, cell_count, put}
use Rattle.ledger.specs.Range.{full_of, unloaded}

-- f of each index below n, in order
unfoldable pub table : ℕ → (ℕ → ℕ) → List ℕ
table zero f = []
table (suc n) f = table n f ++ (f n ∷ [])

-- the cell at place n: "partitions at PART_SPC, meters full, times and tiles 0"
abbrev pub fresh_cell : List ℕ → ℕ → ℕ
fresh_cell image n = cond (ltb n (start credit)) (part_spc image n) (cond (ltb n (start since)) (full_of image (n - start credit)) 0)

unfoldable pub fresh_of : List ℕ → List ℕ
fresh_of image = table cell_count (fresh_cell image)

-- no ledger: its last time is 2^48, so that 39 refuses it under every image
unfoldable pub no_ledger : List ℕ
no_ledger = put (replicate cell_count 0) last 0 281474976710656

-- the row that a fresh ledger's call leaves
abbrev pub freshened : List ℕ → List ℕ
freshened buffer = cond (eqb (unloaded buffer) 0) (fresh_of (image_in buffer)) no_ledger

-- what a fresh ledger's call answers and leaves
pub record Freshened (buffer : List ℕ) (r : Answer) (after : List ℕ) : Type 0 where
  pub answer : r ≡ answer_of (unloaded buffer)
  pub said : said_of r ≡ said_of (answer_of (unloaded buffer))
  pub row : after ≡ freshened buffer

-- ---- loops that fill a row of zeros from its front: the first i cells are f's
pub record Filling (f : ℕ → ℕ) (row : List ℕ) (i : ℕ) : Type 0 where
  pub within : i ≤ cell_count
  pub long : length row ≡ cell_count
  pub is : row ≡ table i f ++ replicate (cell_count - i) 0
