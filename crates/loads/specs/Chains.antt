-- Chains of writes: calls of `write`, each with the load state and the buffer that an outcome permitted for the last one left.
use Rattle.std.specs.Prelude.{◌≡◌, true, List, [], ◌∷◌, ℕ, length}
use Rattle.stream.specs.declared.Load.{Load}
use Rattle.stream.specs.Machine.{Written}
use Rattle.stream.specs.Leaves.{Writes}
use Rattle.flat_numbers.specs.Flat.{joined, phase_number, told_in, place_in, is_load, load_in, number_of}
use Rattle.flat_loads.specs.Calls.{FlatWritten, WritesFlat}
use Rattle.flat_loads.specs.Words.{Words}

-- calls one after the other; what a call may leave is for its promise to say
pub data Chain (S : Type 0) (Permits : S → List ℕ → S → Type 0) : S → List (List ℕ) → S → Type 0 where
  done : {s : S} → Chain S Permits s [] s
  call : {s t u : S} {c : List ℕ} {cs : List (List ℕ)} → Permits s c t → Chain S Permits t cs u → Chain S Permits s (c ∷ cs) u

-- what the promise of `write` permits
abbrev pub Writing : Written → List ℕ → Written → Type 0
Writing w c v = Writes w.load w.buffer c (record { answer = v.answer; load = v.load }) v.buffer

-- a chain of writes
abbrev pub WriteChain : Written → List (List ℕ) → Written → Type 0
WriteChain = Chain Written Writing

-- and what the promise of the write for C and Rust permits
abbrev pub WritingFlat : FlatWritten → List ℕ → FlatWritten → Type 0
WritingFlat w c v = WritesFlat w.numbers w.buffer c v.answer v.numbers v.buffer

-- a chain of writes for C and Rust
abbrev pub WriteChainFlat : FlatWritten → List (List ℕ) → FlatWritten → Type 0
WriteChainFlat = Chain FlatWritten WritingFlat

-- a load by numbers before its first write
abbrev pub unwritten_flat : List ℕ → List ℕ → FlatWritten
unwritten_flat numbers buffer = record { answer = 0xFFFFFFFF; numbers = numbers; buffer = buffer }

-- "32-bit words": every word of every write
abbrev pub AllWords : List (List ℕ) → Type 0
AllWords [] = Unit {0}
AllWords (c ∷ cs) = Words c × AllWords cs

-- numbers tell what a write to a load state left: its answer's number, the load state and the buffer
pub record Tells (v : Written) (w : FlatWritten) : Type 0 where
  pub answer : w.answer ≡ number_of v.answer
  pub state : load_in w.numbers ≡ v.load
  pub buffer : w.buffer ≡ v.buffer

-- and are a load state's
pub record Stated (v : Written) (w : FlatWritten) : Type 0 where
  pub tells : Tells v w
  pub six : length w.numbers ≡ 6
  pub is : is_load w.numbers ≡ true

-- the six numbers that a load state by itself has: what it does not read is 0
abbrev pub plain : Load → List ℕ
plain l =
    joined (phase_number l.phase) (told_in 0 l.phase)
    ∷ joined (place_in 0 l.phase l.table) 0
    ∷ l.placed
    ∷ l.due
    ∷ joined l.first l.second
    ∷ joined l.stream l.block
    ∷ []
