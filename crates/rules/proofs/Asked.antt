-- What the rules behind 20 ask for: an image that 20 lets pass has it.
use Rattle.std.specs.Prelude.{◌≡◌, Bool, false, List, ℕ}
use Rattle.std.proofs.Common.{sym, ◌∙◌}
use Rattle.image.specs.Layout.{count_of}
use Rattle.image.specs.Loaded.{incomplete}
use Rattle.image.specs.SoundLaws.{complete}
use Rattle.image.specs.declared.tables.Table.TheVariants.{MacConfiguration, ForwardingParameters}

pub ports_there : (image : List ℕ) (r : Bool) → r ≡ incomplete image → r ≡ false → count_of image MacConfiguration ≡ 5
ports_there image r e h = (complete image (sym e ∙ h)).ports

pub spaces_there : (image : List ℕ) (r : Bool) → r ≡ incomplete image → r ≡ false → count_of image ForwardingParameters ≡ 1
spaces_there image r e h = (complete image (sym e ∙ h)).spaces
