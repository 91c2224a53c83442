-- A ledger that only permitted calls touched, from a fresh one on, is never refused with 39.
use Rattle.std.specs.Prelude.{◌≡◌, false, List, ℕ, Ok}
use Rattle.std.proofs.Common.{sym, ◌∙◌, ap}
use Rattle.image.specs.Layout.{image_in}
use Rattle.ledger.specs.Answers.{Answer}
use Rattle.ledger.specs.Range.{out_of_range}
use Rattle.row.specs.Fresh.{Freshened}
use Rattle.settle.specs.declared.Verdict.{Verdict}
use Rattle.kept.specs.History.{Event}
use Rattle.kept.specs.HistoryLaws.{never_39}
use Rattle.flat_answers.specs.declared.FlatVerdict.{FlatVerdict}
use Rattle.flat_frames.specs.Frames.{FreshensFlat}
use Rattle.nights.specs.Nights.{Heard, Said, RunOf, RunFlat}
use Rattle.nights.specs.NightLaws.{as_defined, as_defined_flat, not_refused, fresh_run_is}

pub own_ledger_never_39 : (buffer : List ℕ) (es : List Event) (g : List ℕ) (said : List (Said (Heard Verdict) Answer)) (z : List ℕ) → Freshened buffer (Ok tt) g
    → RunOf buffer g es said z
    → out_of_range (image_in buffer) z ≡ false
own_ledger_never_39 buffer es g said z f r =
    ap (out_of_range (image_in buffer)) (fresh_run_is (as_defined buffer) (not_refused buffer g f) f r).1 ∙ never_39 buffer es

pub own_ledger_never_39_flat : (buffer : List ℕ) (es : List Event) (g : List ℕ) (said : List (Said (Heard FlatVerdict) ℕ)) (z : List ℕ) → FreshensFlat buffer 0 g
    → RunFlat buffer g es said z
    → out_of_range (image_in buffer) z ≡ false
own_ledger_never_39_flat buffer es g said z f r =
    ap (out_of_range (image_in buffer)) (fresh_run_is (as_defined_flat buffer) (sym f.number) f r).1 ∙ never_39 buffer es
