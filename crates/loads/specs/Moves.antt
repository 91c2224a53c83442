-- What one word does to a load, what a write and a whole load come to, and what an answer says of the image: the few cases that all theorems here go by.
use Rattle.std.specs.Prelude.{◌≡◌, Bool, true, false, List, [], ◌∷◌, ℕ, ◌<◌, ◌≤◌, length, set, drop, replicate}
use Rattle.image.specs.Layout.{image_words, image_in, mark_at, mark_of, marked}
use Rattle.image.specs.Loaded.{not_loaded}
use Rattle.rules.specs.Rules.{ruled}
use Rattle.stream.specs.declared.Answer.{Answer}
use Rattle.stream.specs.declared.Answer.TheVariants.{More, Loaded, Refused}
use Rattle.stream.specs.declared.Load.{Load}
use Rattle.stream.specs.declared.Phase.{Phase}
use Rattle.stream.specs.declared.Phase.TheVariants.{Device, Id, Length, Sum, Data, Told}
use Rattle.stream.specs.Machine.{Machine, at, told, refuse, run, begun, damaged, outside, Written, written, untouched, opened, wrote}
use Rattle.stream.specs.Paper.{Whole, as_found}
use Rattle.flat_numbers.specs.Flat.{is_load, load_in}
use Rattle.flat_loads.specs.Calls.{FlatWritten, flattened, as_found_flat}
use Rattle.loads.specs.Refusals.{OneOf, leaves_zero}

-- an answer has been told
abbrev pub is_told : Phase → Bool
is_told Device = false
is_told Id = false
is_told Length = false
is_told Sum = false
is_told Data = false
is_told (Told n) = true

-- a buffer's length and what stands behind its image are another's
pub record RestKept (buffer after : List ℕ) : Type 0 where
  pub rest : drop image_words after ≡ drop image_words buffer
  pub long : length after ≡ length buffer

-- the load has begun and has told no answer
pub record Waiting (l : Load) : Type 0 where
  pub begins : begun l.phase ≡ true
  pub untold : is_told l.phase ≡ false

-- one word: the load waits on, over the same buffer or with one word stored before the mark; or a refusal clears the image; or the image is
-- marked and breaks no rule
pub data Move (m : Machine) : Machine → Type 0 where
  waits : {l : Load} → Waiting l → Move m (at l m.buffer)
  stores : {l : Load} (i v : ℕ) → Waiting l → i < mark_at → Move m (at l (set m.buffer i v))
  refuses : {n : ℕ} → leaves_zero n ≡ true → Move m (refuse m.buffer n)
  loads : ruled (image_in (marked m.buffer)) ≡ 0 → Move m (at (told 0) (marked m.buffer))

-- one write: refused with everything as found; or "the answer is repeated and nothing is written"; or a run over its words
pub data Way (l : Load) (buffer words : List ℕ) : Written → Type 0 where
  untaken : {n : ℕ} → OneOf n (30 ∷ 31 ∷ 32 ∷ []) → (n ≡ 30 → damaged l (image_in buffer) ≡ true) → Way l buffer words (untouched n l buffer)
  repeats : is_told l.phase ≡ true → Way l buffer words (written (at l buffer))
  runs : is_told l.phase ≡ false → image_words ≤ length buffer → damaged l (image_in buffer) ≡ false → outside (length words) ≡ false
      → Way l buffer words (written (run (opened l buffer) words))

-- one write by numbers: no load state's, and everything as found; or a write to the state that they are
pub data FlatWay (numbers buffer words : List ℕ) : FlatWritten → Type 0 where
  stateless : {n : ℕ} → OneOf n (30 ∷ 31 ∷ []) → FlatWay numbers buffer words (as_found_flat n numbers buffer)
  stated : is_load numbers ≡ true → FlatWay numbers buffer words (flattened numbers (wrote (load_in numbers) buffer words))

-- what an answer says of the image: at "more" it is not marked, at "loaded" it is loaded, and at a refusal it is zero
pub data LeftBy : Answer → List ℕ → Type 0 where
  more : {buffer : List ℕ} → mark_of (image_in buffer) ≡ 0 → LeftBy More buffer
  loaded : {buffer : List ℕ} → not_loaded (image_in buffer) ≡ false → LeftBy Loaded buffer
  refused : {n : ℕ} {buffer : List ℕ} → leaves_zero n ≡ true → image_in buffer ≡ replicate image_words 0 → LeftBy (Refused n) buffer

-- a whole load: refused with everything as found; or an answer other than "more" that says what the image is
pub data WholeWay (buffer : List ℕ) : Whole → Type 0 where
  unread : {n : ℕ} → OneOf n (9 ∷ 31 ∷ []) → WholeWay buffer (as_found n buffer)
  settles : {w : Whole} → image_words ≤ length buffer → RestKept buffer w.buffer → LeftBy w.answer w.buffer → (w.answer ≡ More → ⊥) → WholeWay buffer w
