-- `whole::load_bytes`: 31, 9, or the run settled.
use Rattle.std.proofs.Common.{refl, ◌∙◌, ap}
use Rattle.whole.proofs.Laws.{ends_as, bytes_31, bytes_9, bytes_whole}
use Rattle.stream.proofs.StatesLaws.{leaves_at}
use Rattle.stream.specs.Ends.{settled}
use Rattle.whole.proofs.load_bytes.Goals as goal

pub returns-then-too_short : goal.returns-then-too_short
returns-then-too_short c = let a = c.args in ends_as (bytes_31 a.image.now a.bytes.now _ c.too_short.ensures c.if-too_short.true) (rw c.from.ensures (record { told = refl; said = refl; kept = refl }))

pub returns-then-bytes-ne0 : goal.returns-then-bytes-ne0
returns-then-bytes-ne0 c = let a = c.args in ends_as (bytes_9 a.image.now a.bytes.now _ c.too_short.ensures c.if-too_short.false c.if-bytes-ne0.true) (rw c.from-then-bytes-ne0.ensures (record { told = refl; said = refl; kept = refl }))

pub returns : goal.returns
returns c = let a = c.args in
    ends_as (ap settled (leaves_at c.bytes_run-end.ensures) ∙ bytes_whole a.image.now a.bytes.now _ c.too_short.ensures c.if-too_short.false c.if-bytes-ne0.false) c.settle.ensures
