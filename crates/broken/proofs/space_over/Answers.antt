use Rattle.std.proofs.Common.{◌≡◌, sym, ◌∙◌, ap, List, ℕ, ◌+◌, rules}
use Rattle.laws.specs.Scan.{total}
use Rattle.laws.specs.ScanLaws.{total_none, total_more}
use Rattle.fields.specs.Fields.{part_spc}
use Rattle.broken.proofs.space_over.Invariants.{space}
use Rattle.broken.proofs.space_over.Goals as goal

one_more : (image : List ℕ) (sum j r : ℕ) → sum ≡ total j (space image) → r ≡ part_spc image j → sum + r ≡ total (j + 1) (space image)
one_more image sum j r e q = ap (λ (x : ℕ). x + r) e ∙ ap (λ (x : ℕ). total j (space image) + x) q ∙ sym (total_more j (space image))

pub loop-j-init : goal.loop-j-init
loop-j-init c = (search rules, sym (total_none _))

pub loop-j-preserved : goal.loop-j-preserved
loop-j-preserved c = search (rules, one_more)
