-- Where a whole load's run ends.
use Rattle.std.specs.Prelude.{◌≡◌, List, ◌++◌, ℕ}
use Rattle.image.specs.Layout.{cleared}
use Rattle.stream.specs.Paper.{Framed, refused, cut, passed, Outcome, refused_with, ended, numbered, Whole}
use Rattle.stream.specs.Machine.{Machine, at, told, Written, written}
use Rattle.stream.specs.declared.Answer.TheVariants.{More}
use Rattle.stream.specs.declared.Phase.{Phase}
use Rattle.stream.specs.declared.Phase.TheVariants.{Device, Id, Length, Sum, Data, Told}

-- no answer has been told: 10, and the image zero
abbrev pub cut_short : List ℕ → Whole
cut_short buffer = record { answer = numbered 10; buffer = cleared buffer }

-- what a whole load makes of where its run stands
abbrev pub settled_in : Phase → List ℕ → Whole
settled_in Device buffer = cut_short buffer
settled_in Id buffer = cut_short buffer
settled_in Length buffer = cut_short buffer
settled_in Sum buffer = cut_short buffer
settled_in Data buffer = cut_short buffer
settled_in (Told n) buffer = record { answer = numbered n; buffer = buffer }

abbrev pub settled : Machine → Whole
settled m = settled_in m.load.phase m.buffer

-- where a load stands that has been told this outcome
abbrev pub final : Outcome → List ℕ → Machine
final o rest = at (told o.number) (o.image ++ rest)

-- what writes come to over a stream: "more" where it is cut, and else its outcome, with the load state told
abbrev pub Reached : List ℕ → Framed → Written → Type 0
Reached rest (refused n) w = w ≡ written (final (refused_with n) rest)
Reached rest cut w = w.answer ≡ More
Reached rest (passed lists) w = w ≡ written (final (ended lists) rest)
