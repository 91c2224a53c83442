-- One more frame can be counted, and can be still once a plan has been carried out.
use Rattle.std.specs.Prelude.{◌≡◌, refl, List, ℕ, ◌<◌}
use Rattle.std.proofs.Common.{sym, ◌∙◌, ap, subst}
use Rattle.ledger.specs.Row.{units, credit, frames, many}
use Rattle.ledger.proofs.Laws.{cells}
use Rattle.ledger.specs.Stands.{Counted}
use Rattle.spend.specs.declared.Counts.{Counts}
use Rattle.plan.specs.declared.Course.{Course}
use Rattle.plan.specs.Plan.{Planned, Dropped, Goes}
use Rattle.settle.specs.declared.Verdict.{Verdict}
use Rattle.spend.specs.declared.Held.{Held}
use Rattle.settle.specs.Settle.{settled_of, held_at, stored, carried_out, Carries}
use Rattle.settle.specs.Runs.{RunsAll}
use Rattle.settle.specs.Note.{counts_at}
use Rattle.settle.specs.Countable.{Countable}

-- the counts of every port stay
pub counts_kept : (g : List ℕ) (w : Course) (h : Held) (port : ℕ) → w.meter < many credit → w.partition < many units → port < many frames
    → counts_at (stored g w h) port ≡ counts_at g port
counts_kept g w h port m p inside = simp cells

countable_as : (a b : List ℕ) (port : ℕ) → counts_at a port ≡ counts_at b port → Countable b port → Countable a port
countable_as a b port e c =
    record {
      tile = subst (λ (n : Counts). Counted n.frames n.drops n.octets n.dropped) (sym e) c.tile;
      room = subst (λ (n : Counts). n.frames < 4294967295) (sym e) c.room;
    }

pub still_countable : (g : List ℕ) (time l : ℕ) (p : Planned) (r : Verdict) (after : List ℕ) (port : ℕ) → Carries g time l p r after → RunsAll p → port < many frames
    → Countable g port
    → Countable after port
still_countable g time l p r after port x q inside c = countable_as after g port (ap (λ (z : List ℕ). counts_at z port) x.row ∙ go p q) c
  where
    go : (p : Planned) → RunsAll p → counts_at (carried_out g time l p).row port ≡ counts_at g port
    go (Dropped n) q = refl
    go (Goes w) q = counts_kept g w (settled_of w (held_at g w) time l).held port q.meter q.partition inside
