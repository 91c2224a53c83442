-- What a write leaves are the numbers of a load state again, and this state is the one that `stream` gives: writes one after the other are
-- writes to the state.
use Rattle.std.specs.Prelude.{◌≡◌, refl, Bool, true, false, cond, not, List, [], ◌∷◌, ℕ, suc, ◌+◌, ◌-◌, ◌<◌, eqb, length}
use Rattle.std.proofs.Common.{◌∙◌, lit<}
use Rattle.std.proofs.Math.Path.{ap}
use Rattle.std.proofs.Math.Seq.{length-sets}
use Rattle.std.proofs.lemmas.Bool.{eqb-false, not-true}
use Rattle.crc.specs.Crc.{word_in, start, finished, checksum}
use Rattle.crc.proofs.Laws.{word_in_lt}
use Rattle.image.specs.Layout.{image_in, cleared, marked}
use Rattle.image.specs.Blocks.{block_of}
use Rattle.image.specs.Loaded.{too_short}
use Rattle.image.specs.declared.tables.Table.{Table}
use Rattle.rules.specs.Rules.{rules, first_of, ruled}
use Rattle.rules.specs.NumbersLaws.{first_holds}
use Rattle.stream.specs.Headers.{header_passes}
use Rattle.stream.specs.Header.{Header, Wrong, Right, device, id_of, length_of, header_of, wrong_passes}
use Rattle.stream.specs.Machine.{Machine, at, idle, filling, told, had_in, begins, step_in, step, run, damaged, outside, untouched, written, opened, wrote}
use Rattle.stream.specs.declared.Phase.{Phase}
use Rattle.stream.specs.declared.Phase.TheVariants.{Device, Id, Length, Sum, Data, Told}
use Rattle.stream.specs.declared.Load.{Load}
use Rattle.flat_numbers.specs.Flat.{load_in, is_load, numbers_of, stored_in}
use Rattle.flat_states.specs.Stored.{Storable}
use Rattle.flat_states.specs.Round.{state_back, is_state_lem, of_numbers}
use Rattle.flat_loads.specs.Calls.{FlatWritten, wrote_flat}
use Rattle.flat_loads.specs.Through.{of_state}
use Rattle.flat_loads.specs.Words.{Words}

-- ---- a word more keeps the state one that six numbers hold

record Kept (m : Machine) : Type 0 where
  load : Storable m.load

-- "more" is no number that a load tells
abbrev Other : ℕ → Type 0
Other n = n ≡ 0xFFFFFFFF → ⊥

abbrev not_more : ℕ → Bool
not_more n = not (eqb n 0xFFFFFFFF)

other : (n : ℕ) → eqb n 0xFFFFFFFF ≡ false → Other n
other n = eqb-false n 0xFFFFFFFF

ruled_other : (image : List ℕ) → Other (ruled image)
unfolding ruled
ruled_other image = other (first_of rules image) (not-true _ (first_holds not_more rules image refl refl))

answered : (n : ℕ) (buffer : List ℕ) → Other n → Kept (at (told n) buffer)
answered n buffer h = record { load = record { first = lit< tt; stream = lit< tt; outside = refl; answered = h } }

-- in a block
inside : (t : Table) (placed due s b : ℕ) (buffer : List ℕ) → s < 4294967296 → Kept (at (filling t placed due s b) buffer)
inside t placed due s b buffer h = record { load = record { first = lit< tt; stream = h; outside = tt; answered = other 0 refl } }

-- between blocks
between : (s : ℕ) (buffer : List ℕ) → s < 4294967296 → Kept (at (idle s) buffer)
between s buffer h = record { load = record { first = lit< tt; stream = h; outside = refl; answered = other 0 refl } }

either : (b : Bool) (x y : Machine) → Kept x → Kept y → Kept (cond b x y)
either true x y h k = h
either false x y h k = k

begun : (x : Header) (s n : ℕ) (buffer : List ℕ) → wrong_passes not_more x ≡ true → s < 4294967296 → Kept (begins x s n buffer)
begun (Wrong number) s n buffer f h = answered number (cleared buffer) (other number (not-true _ f))
begun (Right t) s n buffer f h = inside t 0 n s start buffer h

in_phase : (p : Phase) (l : Load) (buffer : List ℕ) (w : ℕ) → w < 4294967296 → Storable l → l.phase ≡ p → word_in start w < 4294967296 → word_in l.stream w < 4294967296
    → Kept (step_in p l buffer w)
in_phase Device l buffer w h o e z s = either (not (eqb w device)) _ _ (answered 1 (cleared buffer) (other 1 refl)) (between (word_in start w) buffer z)
in_phase Id l buffer w h o e z s = record { load = record { first = h; stream = s; outside = refl; answered = other 0 refl } }
in_phase Length l buffer w h o e z s = record { load = record { first = o.first; stream = s; outside = refl; answered = other 0 refl } }
in_phase Sum l buffer w h o e z s =
    either (eqb (length_of l.second) 0) _ _
    (either (not (eqb w (finished l.stream))) _ _ (answered 8 (cleared buffer) (other 8 refl))
    (either (eqb (ruled (image_in (marked buffer))) 0) _ _ (answered 0 (marked buffer) (other 0 refl))
    (answered (ruled (image_in (marked buffer))) (cleared buffer) (ruled_other (image_in (marked buffer))))))
    (either (not (eqb w (checksum (l.first ∷ l.second ∷ [])))) _ _ (answered 2 (cleared buffer) (other 2 refl))
    (begun (header_of (block_of (id_of l.first)) (length_of l.second) (had_in buffer)) (word_in l.stream w) (length_of l.second) buffer
    (header_passes not_more (block_of (id_of l.first)) (length_of l.second) (had_in buffer) refl refl refl refl) s))
in_phase Data l buffer w h o e z s =
    either (eqb l.due 0) _ _ (either (not (eqb w (finished l.block))) _ _ (answered 7 (cleared buffer) (other 7 refl)) (between (word_in l.stream w) _ s))
    (inside l.table (l.placed + 1) (l.due - 1) (word_in l.stream w) (word_in l.block w) _ s)
in_phase (Told n) l buffer w h o e z s = record { load = o }

step_kept : (m : Machine) (w : ℕ) → w < 4294967296 → Kept m → Kept (step m w)
unfolding step
step_kept m w h s =
    in_phase m.load.phase m.load m.buffer w h s.load refl (word_in_lt start w (lit< tt)) (word_in_lt m.load.stream w s.load.stream)

run_kept : (ws : List ℕ) (m : Machine) → Words ws → Kept m → Kept (run m ws)
unfolding run
run_kept [] m h s = s
run_kept (w ∷ ws) m h s = run_kept ws (step m w) (λ i. h (suc i)) (step_kept m w (h 0) s)

wrote_storable : (l : Load) (buffer words : List ℕ) → Words words → Storable l → Storable (wrote l buffer words).load
unfolding wrote
wrote_storable l buffer words h s = by (too_short buffer) (damaged l (image_in buffer)) (outside (length words))
  where
    by : (x y z : Bool)
        → Storable (cond x (untouched 31 l buffer) (cond y (untouched 30 l buffer) (cond z (untouched 32 l buffer) (written (run (opened l buffer) words))))).load
    by true y z = s
    by false true z = s
    by false false true = s
    by false false false = (run_kept words (opened l buffer) h (record { load = s })).load

-- ---- a write to a state's numbers
module _ (c buffer words : List ℕ) (six : length c ≡ 6) (state : is_load c ≡ true) (small : Words words) where
  next : Load
  next = (wrote (load_in c) buffer words).load

  is : (wrote_flat c buffer words).numbers ≡ stored_in c next
  unfolding next
  is = ap (λ (w : FlatWritten). w.numbers) (of_state c buffer words state)

  fits : Storable next
  unfolding next
  fits = wrote_storable (load_in c) buffer words small (of_numbers c state)

  pub state_after : load_in (wrote_flat c buffer words).numbers ≡ (wrote (load_in c) buffer words).load
  unfolding next
  state_after = ap load_in is ∙ state_back c next six fits

  pub is_state_after : is_load (wrote_flat c buffer words).numbers ≡ true
  is_state_after = ap is_load is ∙ is_state_lem c next six fits.answered

  pub six_after : length (wrote_flat c buffer words).numbers ≡ 6
  six_after = ap length is ∙ length-sets c 0 (numbers_of c next) ∙ six
