-- `replica::all`: what the entries that the loop has passed yield.
use Rattle.image.specs.Layout.{image_in}
use Rattle.replica.specs.Replicating.{Replicating}
use Rattle.replica.proofs.all.Given as goal

abbrev pub invariant-loop-i : goal.invariant-loop-i
invariant-loop-i l = Replicating (image_in l.image) l.initial.row l.port l.time l.frame l.entrant.vlan l.entrant.priority l.initial.places l.row l.places l.entries l.n l.i
