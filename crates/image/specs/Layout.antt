-- The image (document 01, "The stream"): entries in the rows' order, then the counts in the same order, then the mark, then zeros.
use Rattle.std.specs.Prelude.{List, [], ◌∷◌, ◌++◌, ℕ, suc, ◌+◌, ◌-◌, ◌*◌, ◌/◌, ◌<◌, ◌≤◌, length, get_or, set, take, drop, replicate}
use Rattle.image.specs.Rows.{Row, rows, room, before, index_of, table_count, size_of, most_of, start_of}
use Rattle.image.specs.declared.tables.Table.{Table}

-- 11,494 words of entries
abbrev pub entry_words : ℕ
entry_words = before table_count rows

-- "26 for counts and state"
abbrev pub state_words : ℕ
state_words = 26

-- "the image is the first 11,456 words of a lent buffer", and "grows by 64 words" with 12: 11,520
abbrev pub image_words : ℕ
image_words = entry_words + state_words

-- what a buffer holds of the image: its first words. Every definition reads these and none reads the buffer's rest
unfoldable pub image_in : List ℕ → List ℕ
image_in buffer = take image_words buffer

-- the counts in the rows' order, then the mark
abbrev pub count_at : Table → ℕ
count_at t = entry_words + index_of t

abbrev pub mark_at : ℕ
mark_at = entry_words + table_count

-- how many entries of a table the image holds
abbrev pub count_of : List ℕ → Table → ℕ
count_of image t = get_or image (count_at t) 0

-- the mark that the image is loaded is the word 1, and no other word is
abbrev pub mark_of : List ℕ → ℕ
mark_of image = get_or image mark_at 0

-- entry i of a table, its words low word first
abbrev pub entry_of : List ℕ → Table → ℕ → List ℕ
entry_of image t i = take (size_of t) (drop (start_of t + i * size_of t) image)

-- There is an entry i of this table to read: the buffer has an image, the table's count is within its limit, and i is below the count.
-- Each reader of a field asks this, so nothing reads an entry beyond its table's count, and an absent table has no entry, not a zero one.
pub record Held (t : Table) (i : ℕ) (buffer : List ℕ) : Type 0 where
  pub whole : image_words ≤ length buffer
  pub within : count_of (image_in buffer) t ≤ most_of t
  pub there : i < count_of (image_in buffer) t

-- ---- what is written in an image besides its entries

-- the image zero, the buffer's rest kept
unfoldable pub cleared : List ℕ → List ℕ
cleared buffer = replicate image_words 0 ++ drop image_words buffer

-- a table's count is n
abbrev pub counted : List ℕ → Table → ℕ → List ℕ
counted buffer t n = set buffer (count_at t) n

-- marked loaded
abbrev pub marked : List ℕ → List ℕ
marked buffer = set buffer mark_at 1

-- ---- the image that a list of words for each row fixes

-- a table's list in its room, zeros behind it
abbrev pub padded : ℕ → List ℕ → List ℕ
padded n l = take n (l ++ replicate n 0)

-- each table's list in its room, one after the other, from row k on
abbrev pub entries_from : ℕ → List Row → List (List ℕ) → List ℕ
entries_from k [] lists = []
entries_from k (r ∷ rs) lists = padded (room r) (get_or lists k []) ++ entries_from (suc k) rs lists

-- each table's count of whole entries, from row k on
abbrev pub counts_from : ℕ → List Row → List (List ℕ) → List ℕ
counts_from k [] lists = []
counts_from k (r ∷ rs) lists = length (get_or lists k []) / r.size ∷ counts_from (suc k) rs lists

-- the word where the mark goes, and zeros
abbrev pub state : ℕ → List ℕ
state mark = mark ∷ replicate (state_words - suc table_count) 0

-- the entries, the counts, and the state behind them
unfoldable pub layout : ℕ → List (List ℕ) → List ℕ
layout mark lists = entries_from 0 rows lists ++ (counts_from 0 rows lists ++ state mark)

-- a table's own list
abbrev pub list_of : List (List ℕ) → Table → List ℕ
list_of lists t = get_or lists (index_of t) []

-- "a loaded image holds the entries, the counts and the mark that it is loaded, all fixed by the entry lists alone"
abbrev pub image_of : List (List ℕ) → List ℕ
image_of lists = layout 1 lists
