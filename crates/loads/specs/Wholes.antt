-- A whole load, of words or of bytes: what their promises permit, as one.
use Rattle.std.specs.Prelude.{List, ℕ}
use Rattle.stream.specs.declared.Answer.{Answer}
use Rattle.stream.specs.Paper.{loaded_words, loaded_bytes}
use Rattle.stream.specs.Leaves.{Ends}
use Rattle.flat_loads.specs.Calls.{LoadsWords, LoadsBytes}

-- an answer and a buffer that the promise of a whole load into this buffer permits
pub data WholeLoad (buffer : List ℕ) : Answer → List ℕ → Type 0 where
  of_words : (words : List ℕ) {answer : Answer} {after : List ℕ} → Ends (loaded_words buffer words) answer after → WholeLoad buffer answer after
  of_bytes : (bytes : List ℕ) {answer : Answer} {after : List ℕ} → Ends (loaded_bytes buffer bytes) answer after → WholeLoad buffer answer after

-- and for C and Rust
pub data WholeLoadFlat (buffer : List ℕ) : ℕ → List ℕ → Type 0 where
  of_words_flat : (words : List ℕ) {r : ℕ} {after : List ℕ} → LoadsWords buffer words r after → WholeLoadFlat buffer r after
  of_bytes_flat : (bytes : List ℕ) {r : ℕ} {after : List ℕ} → LoadsBytes buffer bytes r after → WholeLoadFlat buffer r after
