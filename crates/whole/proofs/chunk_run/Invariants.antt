-- `whole::chunk_run`: the words taken apart so far and those of the bytes that are left are all of them.
use Rattle.std.proofs.Common.{◌≡◌, ◌++◌, ◌*◌, length, take, drop}
use Rattle.stream.specs.Paper.{words_of}
use Rattle.whole.proofs.chunk_run.Given as goal

abbrev pub invariant-loop-k : goal.invariant-loop-k
invariant-loop-k l = (length l.words ≡ 256) × (take l.k l.words ++ words_of (drop (4 * l.k) l.bytes) ≡ words_of l.bytes)
