-- `replica::all`: nothing yet, one more, an entry that names another, and all.
use Rattle.std.proofs.Common.{refl, sym, subst, rules}
use Rattle.image.specs.Layout.{image_in}
use Rattle.plan.specs.Sane.{Loaded}
use Rattle.plan.proofs.Laws.{policed}
use Rattle.replica.proofs.ReplicaLaws.{carries_replica, few_entries, replicating_none, replicating_more, replicating_same, replicating_no}
use Rattle.replica.proofs.all.Goals as goal
use Rattle.replica.proofs.all.Goals.{then-names, else-names}

pub returns-then-entries-eq0 : goal.returns-then-entries-eq0
returns-then-entries-eq0 c = replicating_no _ _ _ _ _ _ _ _ _ c.count-entries.ensures.0 c.if-entries-eq0.true

pub loop-i-init : goal.loop-i-init
loop-i-init c = replicating_none _

pub one-outcome-requires-clause-loaded : goal.one-outcome-requires-clause-loaded
one-outcome-requires-clause-loaded c = subst (Loaded (image_in c.args.image.now)) (sym c.police-policed.ensures) (policed _ _ _ _ _)

pub loop-i-preserved : goal.loop-i-preserved
loop-i-preserved c = elim c.if-names.branch [
  | then-names w ↦ replicating_more _ _ _ _ _ _ _ _ _ _ _ _ _ _ c.loop-i.invariant c.loop-i-test.true (few_entries _ _ c.requires.sound c.count-entries.ensures.0) c.requires.in_bounds c.names.ensures w.if-names.true (search rules) (carries_replica _ _ _ _ _ _ _ _ _ _ _ _ w.from.ensures c.of-arrival.ensures c.police-policed.ensures w.one-outcome.ensures) w.put.ensures w.put.auto.places w.row-is w.places-is w.n-is refl
  | else-names w ↦ search (rules, replicating_same)
]
