-- The proved table of document 01: its eleven rows as one statement, on an image's entries, on streams, on the rules' answer and on verdicts. Beside it
-- that a load answers what the rules answer.
use Rattle.std.specs.Prelude.{◌≡◌, false, List, ℕ}
use Rattle.image.specs.Layout.{image_of}
use Rattle.image.specs.Loaded.{too_short}
use Rattle.rules.specs.Rules.{ruled}
use Rattle.stream.specs.declared.Answer.{Answer}
use Rattle.stream.specs.Paper.{passed, framed, numbered}
use Rattle.stream.specs.Leaves.{EndsWords}
use Rattle.flat_loads.specs.Calls.{LoadsWords}
use Rattle.exactly.specs.Table.{ProvedTable}
use Rattle.exactly.specs.TableProved as rows
use Rattle.exactly.specs.LoadProved.{words_ruled, words_ruled_flat}

pub proved_table : ProvedTable
proved_table = rows.proved_table

-- rows (f) and (g) at the entry: where framing passes and the buffer has room, whatever the promise of a load permits is
-- the rules' answer on the image that the stream's tables fix
pub rules_answer_a_load : (buffer words : List ℕ) (lists : List (List ℕ)) → too_short buffer ≡ false → framed words ≡ passed lists → (r : Answer) (after : List ℕ)
    → EndsWords buffer words r after
    → r ≡ numbered (ruled (image_of lists))
rules_answer_a_load = words_ruled

-- and for C and Rust
pub rules_answer_a_load_flat : (buffer words : List ℕ) (lists : List (List ℕ)) → too_short buffer ≡ false → framed words ≡ passed lists → (r : ℕ) (after : List ℕ)
    → LoadsWords buffer words r after
    → r ≡ ruled (image_of lists)
rules_answer_a_load_flat = words_ruled_flat
