use Rattle.std.proofs.Common.{rules, ◌≡◌, ℕ, ◌≤◌, sym, subst}
use Rattle.image.specs.declared.tables.Table.TheVariants.{Policing}
use Rattle.ledger.specs.AboveLaws.{tells_none, meter_more, not_loaded_lem, meters_end}
use Rattle.ledger.proofs.range.meters_over.Goals as goal

-- there are no more entries than meters
entries_few : (n m : ℕ) → n ≡ m → m ≤ 45 → n ≤ 45
entries_few n m e h = subst (λ (k : ℕ). k ≤ 45) (sym e) h

pub loop-k-init : goal.loop-k-init
loop-k-init c = tells_none _

pub loop-k-preserved : goal.loop-k-preserved
loop-k-preserved c = search (rules, meter_more)

pub loop-k-2-preserved : goal.loop-k-2-preserved
loop-k-2-preserved c = search (rules, meter_more, not_loaded_lem)

pub returns : goal.returns
returns c = let w = entries_few _ _ c.count-entries.ensures.0 (c.requires.0.within.within Policing) in
    meters_end _ _ _ _ c.loop-k-2.invariant c.loop-k-2-test.false (c.loop-k-2.auto.k-end w)
