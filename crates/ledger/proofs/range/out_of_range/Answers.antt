-- `ledger::range::out_of_range`: 39's clauses, in the order in which they are asked.
use Rattle.std.proofs.Common.{◌≡◌, Bool, true, cond, ◌∙◌, lt-ltb}
use Rattle.laws.specs.Chain.{chain, hit, hit_lt, pass, pass_lt}
use Rattle.image.specs.Layout.{image_in}
use Rattle.ledger.specs.AboveLaws.{as_asked}
use Rattle.ledger.proofs.range.out_of_range.Goals as goal

-- a clause that holds is the answer
holds : (r b x : Bool) → r ≡ b → r ≡ true → r ≡ cond b true x
holds r b x e h = h ∙ hit r b true x e h

pub returns-then-row-gt-LATEST : goal.returns-then-row-gt-LATEST
returns-then-row-gt-LATEST c = as_asked (image_in c.args.image.now) c.args.row.now _ (lt-ltb _ _ c.if-row-gt-LATEST.true ∙ hit_lt _ _ _ _ c.if-row-gt-LATEST.true)

pub returns-then-units_over : goal.returns-then-units_over
returns-then-units_over c = as_asked (image_in c.args.image.now) c.args.row.now _
    (pass_lt _ _ _ _ _ c.if-row-gt-LATEST.false (holds _ _ _ c.units_over.ensures c.if-units_over.true))

pub returns-then-tiles_off : goal.returns-then-tiles_off
returns-then-tiles_off c = as_asked (image_in c.args.image.now) c.args.row.now _
    (pass_lt _ _ _ _ _ c.if-row-gt-LATEST.false (pass _ _ _ _ _ c.units_over.ensures c.if-units_over.false (holds _ _ _ c.tiles_off.ensures c.if-tiles_off.true)))

pub returns-else-tiles_off : goal.returns-else-tiles_off
returns-else-tiles_off c = search (as_asked, chain) depth 40
