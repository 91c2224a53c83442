use Rattle.std.proofs.Common.{◌≡◌, sym, ◌∙◌, ap, List, ℕ, arith, length, take, length-set}
use Rattle.stream.specs.Machine.{at, run}
use Rattle.stream.proofs.StatesLaws.{so}
use Rattle.whole.proofs.Laws.{chunk_on, chunk_end, word_in}
use Rattle.whole.proofs.chunk_run.Goals as goal

pub loop-k-preserved : goal.loop-k-preserved
loop-k-preserved c = let l = c.loop-k in
    let bytes = c.args.bytes.now in
    let fours = c.as_chunks.ensures in
    let more = c.loop-k-test.true in
    let n = c.word_at.result in
    let is = word_in bytes c.as_chunks.result.0.now l.k n fours.front fours.front_len more c.word_at.ensures in
    (length-set l.words l.k n ∙ l.invariant.0, chunk_on bytes l.words l.k n (omega (arith, fours.front_len, more)) (omega (arith, fours.front_len, more)) is ∙ l.invariant.1)

pub returns : goal.returns
returns c = let l = c.loop-k in
    let a = c.args in
    let many = c.as_chunks.ensures.front_len in
    let all : l.k ≡ length c.as_chunks.result.0.now = omega arith in
    so
    (ap (λ (k : ℕ). run (at a.load a.image.now) (take k l.words)) (sym all)
    ∙ ap (λ (ws : List ℕ). run (at a.load a.image.now) ws) (sym (chunk_end a.bytes.now l.words l.k (omega (arith, many)) (omega (arith, many))) ∙ l.invariant.1))
    c.run.ensures
