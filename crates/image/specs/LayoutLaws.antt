-- A word of the image is a word of the buffer.
use Rattle.std.specs.Prelude.{◌≡◌, List, ℕ, ◌<◌, get_or}
use Rattle.std.proofs.Common.{get_or-take}
use Rattle.image.specs.Layout.{image_words, image_in}

-- ---- a word of the image is the buffer's
pub get_d_in : (buffer : List ℕ) (j : ℕ) → j < image_words → get_or (image_in buffer) j 0 ≡ get_or buffer j 0
unfolding image_in
get_d_in buffer j h = get_or-take image_words buffer j 0 h
