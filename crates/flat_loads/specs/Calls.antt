-- What a write by numbers and a whole load answer and leave, over the forms of `stream`.
use Rattle.std.specs.Prelude.{◌≡◌, cond, not, List, ℕ}
use Rattle.image.specs.Loaded.{too_short}
use Rattle.stream.specs.Machine.{Written, wrote}
use Rattle.stream.specs.Paper.{Whole, loaded_words, loaded_bytes}
use Rattle.flat_numbers.specs.Flat.{stored_in, is_load, load_in, number_of}

-- ---- a write

-- what it leaves: the number of its answer, the load state's numbers and the buffer
pub record FlatWritten : Type 0 where
  pub answer : ℕ
  pub numbers : List ℕ
  pub buffer : List ℕ

abbrev pub flattened : List ℕ → Written → FlatWritten
flattened numbers w = record { answer = number_of w.answer; numbers = stored_in numbers w.load; buffer = w.buffer }

abbrev pub as_found_flat : ℕ → List ℕ → List ℕ → FlatWritten
as_found_flat n numbers buffer = record { answer = n; numbers = numbers; buffer = buffer }

-- 31; 30 for numbers that no load state has; then a write to the load state
unfoldable pub wrote_flat : List ℕ → List ℕ → List ℕ → FlatWritten
wrote_flat numbers buffer words =
    cond (too_short buffer) (as_found_flat 31 numbers buffer)
    (cond (not (is_load numbers)) (as_found_flat 30 numbers buffer) (flattened numbers (wrote (load_in numbers) buffer words)))

-- a write leaves its answer, the load state's numbers and the buffer as `wrote_flat` says, for all numbers, buffers and words
pub record WritesFlat (numbers buffer words : List ℕ) (r : ℕ) (after kept : List ℕ) : Type 0 where
  pub answer : r ≡ (wrote_flat numbers buffer words).answer
  pub state : after ≡ (wrote_flat numbers buffer words).numbers
  pub image : kept ≡ (wrote_flat numbers buffer words).buffer

-- ---- a whole load

-- its answer's number and the buffer
pub record EndsFlat (w : Whole) (r : ℕ) (after : List ℕ) : Type 0 where
  pub told : r ≡ number_of w.answer
  pub kept : after ≡ w.buffer

abbrev pub LoadsWords : List ℕ → List ℕ → ℕ → List ℕ → Type 0
LoadsWords buffer words r after = EndsFlat (loaded_words buffer words) r after

abbrev pub LoadsBytes : List ℕ → List ℕ → ℕ → List ℕ → Type 0
LoadsBytes buffer bytes r after = EndsFlat (loaded_bytes buffer bytes) r after
