-- `broken::sharindx_beyond`: no SHARINDX that the loop has passed reaches the count.
use Rattle.std.proofs.Common.{◌≡◌, Bool, false, not, List, ℕ, ltb}
use Rattle.laws.specs.Scan.{some_below}
use Rattle.image.specs.Layout.{image_in, count_of}
use Rattle.image.specs.declared.tables.Table.TheVariants.{Policing}
use Rattle.fields.specs.Fields.{sharindx}
use Rattle.broken.proofs.sharindx_beyond.Given as goal

abbrev pub beyond : List ℕ → ℕ → Bool
beyond image i = not (ltb (sharindx image i) (count_of image Policing))

abbrev pub invariant-loop-i : goal.invariant-loop-i
invariant-loop-i l = some_below l.i (beyond (image_in l.image)) ≡ false
