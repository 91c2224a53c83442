-- The papers' own numbers for the image, and D26's, computed from the rows: rows and code that change together are refused here.
use Rattle.std.specs.Prelude.{◌≡◌, refl, List, [], ◌∷◌, ℕ, ◌+◌}
use Rattle.image.specs.Rows.{Row, rows, start_of}
use Rattle.image.specs.Layout.{entry_words, image_words, mark_at}

-- "the image is the first 11,456 words": "11,430 of entries, 26 for counts and state"; with 12 "the image grows by 64 words"
words_are : (entry_words ≡ 11430 + 64) × (image_words ≡ 11456 + 64)
words_are = (refl, refl)

-- where each row's entries start, then the counts, then the mark
abbrev places_of : List Row → List ℕ
places_of [] = entry_words ∷ mark_at ∷ []
places_of (r ∷ rs) = start_of r.table ∷ places_of rs

-- D26, its table read from left to right
places_are : places_of rows ≡ 0 ∷ 3072 ∷ 3162 ∷ 11354 ∷ 11380 ∷ 11415 ∷ 11416 ∷ 11419 ∷ 11429 ∷ 11430 ∷ 11494 ∷ 11504 ∷ []
places_are = refl
