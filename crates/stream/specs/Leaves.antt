-- What a step, a write and a whole load leave.
use Rattle.std.specs.Prelude.{◌≡◌, List, ℕ}
use Rattle.stream.specs.Answers.{said_of}
use Rattle.stream.specs.Machine.{Machine, wrote}
use Rattle.stream.specs.Paper.{Whole, loaded_words, loaded_bytes}
use Rattle.stream.specs.declared.Answer.{Answer}
use Rattle.stream.specs.declared.Load.{Load}
use Rattle.stream.specs.declared.states.Wrote.{Wrote}

-- a load state and a buffer are those of a machine
pub record Leaves (m : Machine) (load : Load) (buffer : List ℕ) : Type 0 where
  pub state : load ≡ m.load
  pub kept : buffer ≡ m.buffer

-- a write leaves its answer, the load state and the buffer as `wrote` says, for every load state, buffer and words
pub record Writes (load : Load) (buffer words : List ℕ) (r : Wrote) (after : List ℕ) : Type 0 where
  pub answer : r.answer ≡ (wrote load buffer words).answer
  pub said : said_of r.answer ≡ said_of (wrote load buffer words).answer
  pub state : r.load ≡ (wrote load buffer words).load
  pub kept : after ≡ (wrote load buffer words).buffer

-- a whole load leaves this answer and this buffer
pub record Ends (w : Whole) (answer : Answer) (after : List ℕ) : Type 0 where
  pub told : answer ≡ w.answer
  pub said : said_of answer ≡ said_of w.answer
  pub kept : after ≡ w.buffer

-- a whole load of words, and one of bytes
abbrev pub EndsWords : List ℕ → List ℕ → Answer → List ℕ → Type 0
EndsWords buffer words = Ends (loaded_words buffer words)

abbrev pub EndsBytes : List ℕ → List ℕ → Answer → List ℕ → Type 0
EndsBytes buffer bytes = Ends (loaded_bytes buffer bytes)
