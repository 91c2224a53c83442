use Rattle.std.proofs.Common.{ℕ, not, ◌∙◌, ap, eqb}
use Rattle.laws.specs.Scan.{flag}
use Rattle.lookup.specs.GroupsLaws.{clear_none, clear_more}
use Rattle.lookup.proofs.groups.none_has.Goals as goal

pub loop-k-init : goal.loop-k-init
loop-k-init g c = clear_none _

pub loop-k-preserved : goal.loop-k-preserved
loop-k-preserved g c = let l = c.loop-k in
    clear_more _ l.k l.all _ l.invariant (c.apart-all.ensures ∙ ap (λ (x : ℕ). flag (not (eqb x c.args.key))) c.number.ensures.value)
