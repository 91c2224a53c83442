-- `lookup::groups::none_has`: the top bit is set as long as none of the entries has the number.
use Rattle.image.specs.Layout.{image_in}
use Rattle.lookup.specs.Groups.{from, like, Clear}
use Rattle.lookup.proofs.groups.none_has.Given as goal

abbrev pub invariant-loop-k : goal.invariant-loop-k
invariant-loop-k g l = Clear (from l.i (like (g.C.Column.number (image_in l.image)) l.key)) l.k l.all
