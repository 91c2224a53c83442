-- What a write is refused with before one of its words is looked at.
use Rattle.std.specs.Prelude.{cond, List, ℕ}
use Rattle.image.specs.Layout.{image_in}
use Rattle.image.specs.Loaded.{too_short}
use Rattle.stream.specs.Machine.{damaged, outside}
use Rattle.stream.specs.declared.Load.{Load}

-- "order 31, 30, 32": the first that a write of n words gives, or 0
unfoldable pub write_refusal : Load → List ℕ → ℕ → ℕ
write_refusal load buffer n = cond (too_short buffer) 31 (cond (damaged load (image_in buffer)) 30 (cond (outside n) 32 0))
