use Rattle.std.proofs.Common.{◌≡◌, sym, ◌∙◌, Bool, true, false, List, ℕ, ◌+◌, ◌<◌, rules}
use Rattle.laws.specs.Chain.{lt_of}
use Rattle.laws.specs.Scan.{some_below}
use Rattle.laws.specs.ScanLaws.{some_none, some_not, some_found}
use Rattle.image.specs.Layout.{count_of}
use Rattle.image.specs.declared.tables.Table.TheVariants.{Retagging}
use Rattle.broken.specs.Broken.{stray, retag_stray}
use Rattle.broken.proofs.retag_stray.Goals as goal

-- entry i was asked, and r is what was said
stops : (image : List ℕ) (i n : ℕ) (r : Bool) → n ≡ count_of image Retagging → i < n → r ≡ stray image i → r ≡ true → true ≡ retag_stray image
stops image i n r e h q t = sym (some_found (count_of image Retagging) i (stray image) (lt_of i _ n e h) (sym q ∙ t))

one_more : (image : List ℕ) (i : ℕ) (r : Bool) → r ≡ stray image i → r ≡ false → some_below i (stray image) ≡ false → some_below (i + 1) (stray image) ≡ false
one_more image i r q t none = some_not i (stray image) none (sym q ∙ t)

pub loop-i-init : goal.loop-i-init
loop-i-init c = some_none _

pub returns-then-stray : goal.returns-then-stray
returns-then-stray c = search (rules, stops)

pub loop-i-preserved : goal.loop-i-preserved
loop-i-preserved c = search (rules, one_more)
