-- The machine's form: one word at a time on a load state and a buffer, total on any of both. A write is a run of it between document 01's tests.
use Rattle.std.specs.Prelude.{Bool, true, false, cond, not, List, [], ◌∷◌, ℕ, ◌+◌, ◌-◌, ◌*◌, ◌/◌, ltb, eqb, length, set}
use Rattle.crc.specs.Crc.{word_in, start, finished, checksum}
use Rattle.image.specs.Rows.{size_of, most_of, start_of}
use Rattle.image.specs.Blocks.{block_of}
use Rattle.image.specs.Layout.{image_in, count_of, cleared, counted, marked}
use Rattle.image.specs.Loaded.{too_short, over_limit}
use Rattle.image.specs.declared.tables.Table.{Table}
use Rattle.image.specs.declared.tables.Table.TheVariants.{AddressLookup}
use Rattle.rules.specs.Rules.{ruled}
use Rattle.stream.specs.Header.{Header, Wrong, Right, device, id_of, length_of, header_of}
use Rattle.stream.specs.Paper.{numbered}
use Rattle.stream.specs.declared.Answer.{Answer}
use Rattle.stream.specs.declared.Answer.TheVariants.{More, Refused}
use Rattle.stream.specs.declared.Phase.{Phase}
use Rattle.stream.specs.declared.Phase.TheVariants.{Device, Id, Length, Sum, Data, Told}
use Rattle.stream.specs.declared.Load.{Load}

-- a load state and the buffer that it loads into
pub record Machine : Type 0 where
  pub load : Load
  pub buffer : List ℕ

abbrev pub at : Load → List ℕ → Machine
at l b = record { load = l; buffer = b }

-- ---- the states; what a phase does not need is as in the fresh one
abbrev state : Phase → Table → ℕ → ℕ → ℕ → ℕ → ℕ → ℕ → Load
state phase table placed due first second stream block =
    record { phase = phase; table = table; placed = placed; due = due; first = first; second = second; stream = stream; block = block }

abbrev pub fresh : Load
fresh = state Device AddressLookup 0 0 0 0 0 0

abbrev pub idle : ℕ → Load
idle s = state Id AddressLookup 0 0 0 0 s 0

abbrev pub headed : ℕ → ℕ → Load
headed s h0 = state Length AddressLookup 0 0 h0 0 s 0

abbrev pub sized : ℕ → ℕ → ℕ → Load
sized s h0 h1 = state Sum AddressLookup 0 0 h0 h1 s 0

abbrev pub filling : Table → ℕ → ℕ → ℕ → ℕ → Load
filling t placed due s b = state Data t placed due 0 0 s b

-- "after an answer the load state is the fresh one but for the answer"
abbrev pub told : ℕ → Load
told n = state (Told n) AddressLookup 0 0 0 0 0 0

-- ---- the buffer

-- "refusals 1 to 8, 10 and of a loading rule leave the image zero"
abbrev pub refuse : List ℕ → ℕ → Machine
refuse buffer n = at (told n) (cleared buffer)

-- how many entries of a table the buffer's image has
abbrev pub had_in : List ℕ → Table → ℕ
had_in buffer t = count_of (image_in buffer) t

-- where the next word of a block goes
abbrev pub place_in : List ℕ → Table → ℕ → ℕ
place_in buffer t placed = start_of t + had_in buffer t * size_of t + placed

-- ---- one word

-- the end block has passed: the image is marked and the rules are run
abbrev pub finish : List ℕ → Machine
finish buffer =
    cond (eqb (ruled (image_in (marked buffer))) 0) (at (told 0) (marked buffer)) (refuse buffer (ruled (image_in (marked buffer))))

-- a block's third word where its length is 0: the global checksum
abbrev pub ended_by : ℕ → List ℕ → ℕ → Machine
ended_by s buffer w = cond (not (eqb w (finished s))) (refuse buffer 8) (finish buffer)

-- a header's refusal, or its n data words are due, with the whole stream's register at s
abbrev pub begins : Header → ℕ → ℕ → List ℕ → Machine
begins (Wrong number) s n buffer = refuse buffer number
begins (Right t) s n buffer = at (filling t 0 n s start) buffer

-- a header whose checksum is right: 3 to 6, or its data follow
abbrev pub begun_by : ℕ → ℕ → ℕ → List ℕ → Machine
begun_by s h0 n buffer = begins (header_of (block_of (id_of h0)) n (had_in buffer)) s n buffer

-- a block's third word
abbrev pub summed : ℕ → ℕ → ℕ → List ℕ → ℕ → Machine
summed s h0 h1 buffer w =
    cond (eqb (length_of h1) 0) (ended_by s buffer w)
    (cond (not (eqb w (checksum (h0 ∷ h1 ∷ [])))) (refuse buffer 2) (begun_by (word_in s w) h0 (length_of h1) buffer))

-- a data word, or their checksum where none is due: a count rises when its block's checksum has passed
abbrev pub filled : Table → ℕ → ℕ → ℕ → ℕ → List ℕ → ℕ → Machine
filled t placed due s b buffer w =
    cond (eqb due 0)
    (cond (not (eqb w (finished b))) (refuse buffer 7)
    (at (idle (word_in s w)) (counted buffer t (had_in buffer t + placed / size_of t))))
    (at (filling t (placed + 1) (due - 1) (word_in s w) (word_in b w)) (set buffer (place_in buffer t placed) w))

-- word 0
abbrev pub started_by : List ℕ → ℕ → Machine
started_by buffer w = cond (not (eqb w device)) (refuse buffer 1) (at (idle (word_in start w)) buffer)

abbrev pub step_in : Phase → Load → List ℕ → ℕ → Machine
step_in Device l buffer w = started_by buffer w
step_in Id l buffer w = at (headed (word_in l.stream w) w) buffer
step_in Length l buffer w = at (sized (word_in l.stream w) l.first w) buffer
step_in Sum l buffer w = summed l.stream l.first l.second buffer w
step_in Data l buffer w = filled l.table l.placed l.due l.stream l.block buffer w
step_in (Told n) l buffer w = at l buffer

unfoldable pub step : Machine → ℕ → Machine
step m w = step_in m.load.phase m.load m.buffer w

-- words, one after the other
unfoldable pub run : Machine → List ℕ → Machine
run m [] = m
run m (w ∷ ws) = run (step m w) ws

-- ---- a write

-- what a phase answers: "while the end block is incomplete a write answers more"
abbrev pub answer_of : Phase → Answer
answer_of Device = More
answer_of Id = More
answer_of Length = More
answer_of Sum = More
answer_of Data = More
answer_of (Told n) = numbered n

-- a load has begun once a word has been taken
abbrev pub begun : Phase → Bool
begun Device = false
begun Id = true
begun Length = true
begun Sum = true
begun Data = true
begun (Told n) = true

-- "more words due than the block's table has room for"
abbrev pub beyond : List ℕ → Table → ℕ → ℕ → Bool
beyond image t placed due = ltb (most_of t * size_of t) (count_of image t * size_of t + placed + due)

abbrev pub overdue_in : Phase → Load → List ℕ → Bool
overdue_in Device l image = false
overdue_in Id l image = false
overdue_in Length l image = false
overdue_in Sum l image = false
overdue_in Data l image = beyond image l.table l.placed l.due
overdue_in (Told n) l image = false

-- 30 for "a write to a load already begun": "the image or load state holds a table count above its limit, or more words due than ..."
abbrev pub damaged : Load → List ℕ → Bool
damaged l image = cond (begun l.phase) (cond (over_limit image) true (overdue_in l.phase l image)) false

-- 32: "a write of 0 words or above 64"
abbrev pub outside : ℕ → Bool
outside n = cond (eqb n 0) true (ltb 64 n)

-- what a write leaves: its answer, the load state and the buffer
pub record Written : Type 0 where
  pub answer : Answer
  pub load : Load
  pub buffer : List ℕ

abbrev pub written : Machine → Written
written m = record { answer = answer_of m.load.phase; load = m.load; buffer = m.buffer }

-- "30, 31 and 32 leave everything as found"
abbrev pub untouched : ℕ → Load → List ℕ → Written
untouched n l buffer = record { answer = Refused n; load = l; buffer = buffer }

-- "a load starts by zeroing the image"
abbrev pub opened : Load → List ℕ → Machine
opened l buffer = at l (cond (begun l.phase) buffer (cleared buffer))

-- "order 31, 30, 32, then a repeated answer"; a load that has been told runs on unchanged
unfoldable pub wrote : Load → List ℕ → List ℕ → Written
wrote l buffer words =
    cond (too_short buffer) (untouched 31 l buffer)
    (cond (damaged l (image_in buffer)) (untouched 30 l buffer)
    (cond (outside (length words)) (untouched 32 l buffer) (written (run (opened l buffer) words))))
