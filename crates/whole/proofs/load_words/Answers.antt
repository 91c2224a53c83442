-- `whole::load_words`: 31, or the run settled.
use Rattle.std.proofs.Common.{refl, ◌∙◌, ap}
use Rattle.whole.proofs.Laws.{ends_as, words_31, words_on}
use Rattle.stream.proofs.StatesLaws.{leaves_at}
use Rattle.stream.specs.Ends.{settled}
use Rattle.whole.proofs.load_words.Goals as goal

pub returns-then-too_short : goal.returns-then-too_short
returns-then-too_short c = let a = c.args in ends_as (words_31 a.image.now a.words.now _ c.too_short.ensures c.if-too_short.true) (rw c.from.ensures (record { told = refl; said = refl; kept = refl }))

pub returns : goal.returns
returns c = let a = c.args in
    ends_as (ap settled (leaves_at c.fresh_run-end.ensures) ∙ words_on a.image.now a.words.now _ c.too_short.ensures c.if-too_short.false) c.settle.ensures
