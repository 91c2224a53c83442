-- From a fresh ledger none of a history is refused with 39.
use Rattle.std.specs.Prelude.{◌≡◌, false, List, [], ◌∷◌, ℕ}
use Rattle.image.specs.Layout.{image_in}
use Rattle.ledger.specs.Range.{out_of_range}
use Rattle.row.specs.Fresh.{fresh_of}
use Rattle.kept.specs.Kept.{Kept}
use Rattle.kept.specs.KeptLaws.{fresh_kept, call_kept, release_kept, passes_39}
use Rattle.kept.specs.History.{Event, frame, release, step, after}

pub step_kept : (buffer g : List ℕ) (e : Event) → Kept (image_in buffer) g → Kept (image_in buffer) (step buffer g e)
step_kept buffer g (frame port time bytes) k = call_kept buffer g port time bytes k
step_kept buffer g (release partition) k = release_kept buffer g partition k

history_kept : (buffer g : List ℕ) (es : List Event) → Kept (image_in buffer) g → Kept (image_in buffer) (after buffer g es)
history_kept buffer g [] k = k
history_kept buffer g (e ∷ es) k = history_kept buffer (step buffer g e) es (step_kept buffer g e k)

-- no ledger of one's own is refused with 39
pub never_39 : (buffer : List ℕ) (es : List Event) → out_of_range (image_in buffer) (after buffer (fresh_of (image_in buffer)) es) ≡ false
never_39 buffer es =
    passes_39 (image_in buffer) (after buffer (fresh_of (image_in buffer)) es)
    (history_kept buffer (fresh_of (image_in buffer)) es (fresh_kept (image_in buffer))).range
