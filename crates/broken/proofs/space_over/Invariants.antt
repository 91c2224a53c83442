-- `broken::space_over`: the sum of the spaces that the loop has passed.
use Rattle.std.proofs.Common.{◌≡◌, List, ℕ, ◌*◌, ◌≤◌}
use Rattle.laws.specs.Scan.{total}
use Rattle.image.specs.Layout.{image_in}
use Rattle.fields.specs.Fields.{part_spc}
use Rattle.broken.proofs.space_over.Given as goal

abbrev pub space : List ℕ → ℕ → ℕ
space image j = part_spc image j

abbrev pub invariant-loop-j : goal.invariant-loop-j
invariant-loop-j l = (l.sum ≤ 1024 * l.j) × (l.sum ≡ total l.j (space (image_in l.image)))
