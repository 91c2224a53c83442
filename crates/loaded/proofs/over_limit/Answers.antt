use Rattle.std.proofs.Common.{◌≡◌, refl, sym, ◌∙◌, ap, Bool, List, ℕ}
use Rattle.laws.specs.ScanLaws.{some_none, some_not, some_found, some_end}
use Rattle.image.specs.Rows.{table_count, row_at}
use Rattle.image.specs.Layout.{image_in}
use Rattle.image.specs.Loaded.{above, over_limit}
use Rattle.image.specs.declared.tables.Table.{Table}
use Rattle.loaded.proofs.over_limit.Invariants.{over}
use Rattle.loaded.proofs.over_limit.Goals as goal

-- what the call said of the table that it was given is the row's
told : (image : List ℕ) (place : ℕ) (t : Table) (r : Bool) → t ≡ (row_at place).table → r ≡ above (image_in image) t → over image place ≡ r
told image place t r e q = sym (q ∙ ap (above (image_in image)) e)

pub loop-place-init : goal.loop-place-init
loop-place-init c = some_none _

pub returns-then-above : goal.returns-then-above
unfolding over_limit
returns-then-above c = let l = c.loop-place in
    sym (some_found table_count l.place (over _) c.loop-place-test.true (told _ l.place _ _ c.table_at.ensures c.above.ensures ∙ c.if-above.true))

pub loop-place-preserved : goal.loop-place-preserved
loop-place-preserved c = let l = c.loop-place in
    some_not l.place (over _) l.invariant (told _ l.place _ _ c.table_at.ensures c.above.ensures ∙ c.if-above.false)

pub returns : goal.returns
unfolding over_limit
returns c = let l = c.loop-place in some_end table_count table_count l.place _ refl c.loop-place-test.false l.auto.place-end l.invariant
