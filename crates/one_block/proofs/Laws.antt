-- What a run of data words leaves, as the machine says it.
use Rattle.std.proofs.Common.{◌≡◌, sym, ◌∙◌, ap, subst, List, [], ◌∷◌, ℕ, ◌+◌, ◌-◌, ◌<◌, ◌≤◌, not-suc-le-zero, length}
use Rattle.std.proofs.lemmas.List.Edits.{sets}
use Rattle.crc.specs.Crc.{words_in}
use Rattle.image.specs.Layout.{entry_words}
use Rattle.stream.specs.Machine.{at, filling, place_in, step_in, step, run}
use Rattle.stream.specs.Runs.{run_data}
use Rattle.stream.specs.declared.Phase.{Phase}
use Rattle.stream.specs.declared.Phase.TheVariants.{Data}
use Rattle.stream.specs.declared.Load.{Load}

-- a run of data words from any load that is inside a block
run_filling : (l : Load) (buffer ds : List ℕ) → l.phase ≡ Data → 0 < length ds
    → run (at l buffer) ds ≡ run (at (filling l.table l.placed l.due l.stream l.block) buffer) ds
unfolding run step
run_filling l buffer [] e h = absurd (not-suc-le-zero h)
run_filling l buffer (d ∷ ds) e h = ap (λ (x : Phase). run (step_in x l buffer d) ds) e

-- what was stored and summed is the machine's run
pub data_run : (l : Load) (buffer ds stored : List ℕ) (place s b : ℕ) → l.phase ≡ Data → 0 < length ds → length ds ≤ l.due
    → place + length ds ≤ entry_words
    → place ≡ place_in buffer l.table l.placed
    → stored ≡ sets buffer place ds
    → s ≡ words_in l.stream ds
    → b ≡ words_in l.block ds
    → at (filling l.table (l.placed + length ds) (l.due - length ds) s b) stored ≡ run (at l buffer) ds
data_run l buffer ds stored place s b e some fits inside ep est es eb =
    ap (λ (x : List ℕ). at (filling l.table (l.placed + length ds) (l.due - length ds) s b) x) (est ∙ ap (λ (x : ℕ). sets buffer x ds) ep)
    ∙ ap (λ (x : ℕ). at (filling l.table (l.placed + length ds) (l.due - length ds) x b) (sets buffer p ds)) es
    ∙ ap (λ (x : ℕ). at (filling l.table (l.placed + length ds) (l.due - length ds) (words_in l.stream ds) x) (sets buffer p ds)) eb
    ∙ sym
    (run_filling l buffer ds e some
    ∙ run_data l.table l.placed l.due l.stream l.block buffer ds fits (subst (λ (x : ℕ). x + length ds ≤ entry_words) ep inside))
  where
    p : ℕ
    p = place_in buffer l.table l.placed
