-- A release (document 01): "gives back one unit. Refusals 31, 30, 39, then 36 (partition above 7) and 37 (nothing of it is out)".
use Rattle.std.specs.Prelude.{◌≡◌, cond, List, ℕ, ◌+◌, ◌<◌, ltb, leb, eqb}
use Rattle.image.specs.Layout.{image_in}
use Rattle.fields.specs.Fields.{part_spc}
use Rattle.ledger.specs.Answers.{Answer, answer_of, said_of}
use Rattle.ledger.specs.Row.{units, many, cell, put}
use Rattle.ledger.specs.Range.{standing}
use Rattle.ledger.specs.Stands.{Stands}

-- 36, 37; 0 where neither refuses
abbrev pub unreleased : List ℕ → List ℕ → ℕ → ℕ
unreleased image g partition = cond (ltb 7 partition) 36 (cond (leb (part_spc image partition) (cell g units partition)) 37 0)

-- what refuses a release, in its order
unfoldable pub release_refusal : List ℕ → List ℕ → ℕ → ℕ
release_refusal buffer g partition = cond (eqb (standing buffer g) 0) (unreleased (image_in buffer) g partition) (standing buffer g)

-- the units that one release gives back
abbrev pub given_back : ℕ
given_back = 1

abbrev pub given_to : List ℕ → ℕ → List ℕ
given_to g partition = put g units partition (cell g units partition + given_back)

-- the row that a release leaves
unfoldable pub released : List ℕ → List ℕ → ℕ → List ℕ
released buffer g partition = cond (eqb (release_refusal buffer g partition) 0) (given_to g partition) g

-- what a release answers and leaves
pub record Released (buffer g : List ℕ) (partition : ℕ) (r : Answer) (after : List ℕ) : Type 0 where
  pub answer : r ≡ answer_of (release_refusal buffer g partition)
  pub said : said_of r ≡ said_of (answer_of (release_refusal buffer g partition))
  pub row : after ≡ released buffer g partition

-- a partition of the eight with room for a unit
pub record HasRoom (g : List ℕ) (partition : ℕ) : Type 0 where
  pub inside : partition < many units
  pub small : cell g units partition < 1024

-- what a release that is not refused has
pub record Releasable (buffer g : List ℕ) (partition : ℕ) : Type 0 where
  pub stands : Stands buffer g
  pub has : HasRoom g partition
  pub out : cell g units partition < part_spc (image_in buffer) partition
