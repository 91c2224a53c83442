-- `broken::index_twice`: what the marks say after each turn is a law of the scan.
use Rattle.std.proofs.Common.{List, map, ℕ}
use Rattle.laws.specs.Scan.{flag, Counting}
use Rattle.image.specs.Layout.{image_in}
use Rattle.fields.specs.Fields.{index}
use Rattle.broken.proofs.index_twice.Given as goal

abbrev pub value : List ℕ → ℕ → ℕ
value image i = index (image_in image) i

abbrev pub invariant-loop-i : goal.invariant-loop-i
invariant-loop-i l = Counting (value l.image) 1024 l.i (flag l.seen.again) (map flag l.seen.marks)
