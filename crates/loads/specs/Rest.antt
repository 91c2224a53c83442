-- The image is the first words of "a lent buffer, whose rest is never written": by no write and no whole load, whatever its answer.
use Rattle.std.specs.Prelude.{refl, List, ℕ, ◌≤◌, length}
use Rattle.std.proofs.Common.{sym, ◌∙◌, subst}
use Rattle.image.specs.Layout.{image_words}
use Rattle.stream.specs.declared.Answer.{Answer}
use Rattle.stream.specs.declared.Load.{Load}
use Rattle.stream.specs.declared.states.Wrote.{Wrote}
use Rattle.stream.specs.Machine.{Written}
use Rattle.stream.specs.Leaves.{Writes}
use Rattle.stream.specs.Paper.{Whole}
use Rattle.flat_numbers.specs.Flat.{load_in}
use Rattle.flat_loads.specs.Calls.{FlatWritten, WritesFlat}
use Rattle.loads.specs.Moves.{RestKept, Way, untaken, repeats, runs, FlatWay, stateless, stated, WholeWay, unread, settles}
use Rattle.loads.specs.RunsLaws.{kept_run}
use Rattle.loads.specs.WaysLaws.{way, flat_way}
use Rattle.loads.specs.Wholes.{WholeLoad, WholeLoadFlat}
use Rattle.loads.specs.WholesLaws.{whole_way, answer_behind}
use Rattle.loads.specs.Chains.{done, call, WriteChain}

same : (buffer : List ℕ) → RestKept buffer buffer
same buffer = record { rest = refl; long = refl }

by_way : {l : Load} {buffer words : List ℕ} {w : Written} → Way l buffer words w → RestKept buffer w.buffer
by_way {buffer = buffer} (untaken n d) = same buffer
by_way {buffer = buffer} (repeats t) = same buffer
by_way {l} {buffer} {words} (runs t room d o) = kept_run l buffer words room d

by_flat_way : {numbers buffer words : List ℕ} {w : FlatWritten} → FlatWay numbers buffer words w → RestKept buffer w.buffer
by_flat_way {buffer = buffer} (stateless n) = same buffer
by_flat_way {numbers} {buffer} {words} (stated e) = by_way (way (load_in numbers) buffer words)

by_whole_way : {buffer : List ℕ} {w : Whole} → WholeWay buffer w → RestKept buffer w.buffer
by_whole_way {buffer} (unread n) = same buffer
by_whole_way (settles room kept says m) = kept

-- a write, for every load state, buffer and words
pub write_keeps_the_rest : {l : Load} {buffer words : List ℕ} {r : Wrote} {after : List ℕ} → Writes l buffer words r after → RestKept buffer after
write_keeps_the_rest {l} {buffer} {words} p = subst (RestKept buffer) (sym p.kept) (by_way (way l buffer words))

-- a write for C and Rust, for all numbers
pub flat_write_keeps_the_rest : {numbers buffer words : List ℕ} {r : ℕ} {after kept : List ℕ} → WritesFlat numbers buffer words r after kept → RestKept buffer kept
flat_write_keeps_the_rest {numbers} {buffer} {words} p = subst (RestKept buffer) (sym p.image) (by_flat_way (flat_way numbers buffer words))

-- a whole load of words or bytes
pub whole_load_keeps_the_rest : {buffer : List ℕ} {answer : Answer} {after : List ℕ} → WholeLoad buffer answer after → RestKept buffer after
whole_load_keeps_the_rest p = by_whole_way (whole_way p)

-- and for C and Rust
pub flat_whole_load_keeps_the_rest : {buffer : List ℕ} {r : ℕ} {after : List ℕ} → WholeLoadFlat buffer r after → RestKept buffer after
flat_whole_load_keeps_the_rest p = whole_load_keeps_the_rest (answer_behind p).1

on : {a b c : List ℕ} → RestKept a b → RestKept b c → RestKept a c
on p q = record { rest = q.rest ∙ p.rest; long = q.long ∙ p.long }

-- so no chain of writes writes it
pub chain_keeps_the_rest : {w v : Written} {cs : List (List ℕ)} → WriteChain w cs v → RestKept w.buffer v.buffer
chain_keeps_the_rest {w} done = same w.buffer
chain_keeps_the_rest (call p q) = on (write_keeps_the_rest p) (chain_keeps_the_rest q)

-- so a buffer with room for the image has it still
pub room_kept : {buffer after : List ℕ} → image_words ≤ length buffer → RestKept buffer after → image_words ≤ length after
room_kept room kept = subst (λ (n : ℕ). image_words ≤ n) (sym kept.long) room
