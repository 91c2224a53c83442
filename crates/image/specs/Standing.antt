-- A buffer with room for an image that is not loaded, and with one that is: what 31 and 30 of a frame ask.
use Rattle.std.specs.Prelude.{◌≡◌, true, false, List, ℕ}
use Rattle.image.specs.Layout.{image_in}
use Rattle.image.specs.Loaded.{too_short, not_loaded}

-- room for an image, and one that isn't loaded: "image not marked loaded, or a count above its limit or such as rule 20 refuses"
pub record Unloaded (buffer : List ℕ) : Type 0 where
  pub room : too_short buffer ≡ false
  pub unmarked : not_loaded (image_in buffer) ≡ true

-- room for an image, and one that is loaded
pub record IsLoaded (buffer : List ℕ) : Type 0 where
  pub room : too_short buffer ≡ false
  pub marked : not_loaded (image_in buffer) ≡ false
