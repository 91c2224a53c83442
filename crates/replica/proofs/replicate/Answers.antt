-- `replica::replicate`: none where the frame was not let in.
use Rattle.std.proofs.Common.{refl, sym, subst}
use Rattle.std.specs.Prelude.{Option}
use Rattle.plan.specs.declared.enter.Entrant.{Entrant}
use Rattle.image.specs.Layout.{image_in}
use Rattle.places.specs.PlacesLaws.{laid_none}
use Rattle.replica.specs.Replica.{replicas_for, Replicates}
use Rattle.replica.proofs.replicate.Goals as goal

pub returns-in-None : goal.returns-in-None
returns-in-None c = let s = c.args in
    subst (λ (e : Option Entrant). Replicates (replicas_for (image_in s.image.now) s.row.now s.port s.time s.frame.now e) s.places.now 0 s.row.now s.places.now) (sym c.in-None.is)
    record { many = refl; left = refl; laid = laid_none s.places.now }
