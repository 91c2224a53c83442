-- A write inside a block that brings data of this block alone.
use Rattle.std.specs.Prelude.{cond, List, ℕ, ltb, Option, Some, None}
use Rattle.image.specs.Layout.{image_in}
use Rattle.image.specs.Loaded.{over_limit}
use Rattle.image.specs.declared.tables.Table.{Table}
use Rattle.stream.specs.Machine.{place_in, beyond, outside}

-- where its n words go; nowhere where a test refuses the write, or where it has more words than are due
unfoldable pub data_place : List ℕ → Table → ℕ → ℕ → ℕ → Option ℕ
data_place buffer t placed due n =
    cond (outside n) None
    (cond (ltb due n) None
    (cond (over_limit (image_in buffer)) None (cond (beyond (image_in buffer) t placed due) None (Some (place_in buffer t placed)))))
