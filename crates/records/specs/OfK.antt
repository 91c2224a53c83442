-- Configuration K's list as bytes (document 01, "The verdict program").
use Rattle.std.specs.Prelude.{List, ◌∷◌, ◌++◌, ℕ, replicate}
use Rattle.records.specs.List.{mark, version_one}

-- "Kind 1: port (1 byte), time (8), length (2), bytes": an untagged broadcast of this many bytes, all FF
abbrev pub broadcast : ℕ → ℕ → ℕ → List ℕ
broadcast port time count = 1 ∷ port ∷ replicate 7 0 ++ time ∷ 0 ∷ count ∷ replicate count 0xFF

-- "List: untagged broadcasts of 60 bytes on port 0 at 10 and 20, release of 0, then 59 bytes on port 1 at 30"
unfoldable pub list_of_k : List ℕ
list_of_k = mark ++ version_one ++ broadcast 0 10 60 ++ broadcast 0 20 60 ++ 2 ∷ 0 ∷ broadcast 1 30 59
