-- Writes, one after the other, from a fresh load state.
use Rattle.std.specs.Prelude.{◌≡◌, false, List, [], ◌∷◌, ◌++◌, ℕ, length}
use Rattle.stream.specs.Machine.{fresh, outside, Written, wrote}
use Rattle.stream.specs.declared.Answer.TheVariants.{More}

-- writes, one after the other, each with the load state and the buffer that the last one left
unfoldable pub writes : Written → List (List ℕ) → Written
writes w [] = w
writes w (c ∷ cs) = writes (wrote w.load w.buffer c) cs

-- a load before its first write
abbrev pub unwritten : List ℕ → Written
unwritten buffer = record { answer = More; load = fresh; buffer = buffer }

-- the words of some writes
unfoldable pub words : List (List ℕ) → List ℕ
words [] = []
words (c ∷ cs) = c ++ words cs

-- each write has 1 to 64 words
abbrev pub Cuts : List (List ℕ) → Type 0
Cuts [] = Unit {0}
Cuts (c ∷ cs) = (outside (length c) ≡ false) × Cuts cs
