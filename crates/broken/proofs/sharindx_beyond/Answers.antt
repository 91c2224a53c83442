use Rattle.std.proofs.Common.{◌≡◌, sym, ap, true, false, not, List, ℕ, ◌+◌, ◌≤◌, ◌<◌, le_of_lt, arith, rules, lt-ltb, le-ltb}
use Rattle.laws.specs.Chain.{lt_of}
use Rattle.laws.specs.Scan.{some_below}
use Rattle.laws.specs.ScanLaws.{some_none, some_not, some_found}
use Rattle.image.specs.Layout.{count_of}
use Rattle.image.specs.declared.tables.Table.TheVariants.{Policing}
use Rattle.fields.specs.Fields.{sharindx}
use Rattle.broken.specs.Broken.{sharindx_beyond}
use Rattle.broken.proofs.sharindx_beyond.Invariants.{beyond}
use Rattle.broken.proofs.sharindx_beyond.Goals as goal

-- entry i has the SHARINDX r, and the count is n
module _ (image : List ℕ) (i n r : ℕ) (e : n ≡ count_of image Policing) (q : r ≡ sharindx image i) where
  reaches : i < n → n ≤ r → true ≡ sharindx_beyond image
  reaches h l = sym (some_found (count_of image Policing) i (beyond image) (lt_of i _ n e h) (ap not (le-ltb (sharindx image i) (count_of image Policing) (omega arith))))

  one_more : r < n → some_below i (beyond image) ≡ false → some_below (i + 1) (beyond image) ≡ false
  one_more l none = some_not i (beyond image) none (ap not (lt-ltb (sharindx image i) (count_of image Policing) (omega arith)))

-- to stop only where n < r would be right as well, and wrong at the next turn
ruleset stops = (reaches, le_of_lt)

pub loop-i-init : goal.loop-i-init
loop-i-init c = some_none _

pub returns-then-n-sharindx : goal.returns-then-n-sharindx
returns-then-n-sharindx c = search (rules, stops)

pub loop-i-preserved : goal.loop-i-preserved
loop-i-preserved c = search (rules, one_more)
