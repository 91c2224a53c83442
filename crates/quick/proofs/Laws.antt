-- Runs in parts.
use Rattle.std.proofs.Common.{◌≡◌, refl, sym, ◌∙◌, ap, ap₂, List, [], ◌∷◌, ◌++◌, ℕ, arith, length, take, drop, take-append-drop}
use Rattle.stream.specs.Machine.{Machine, step, run}
use Rattle.stream.specs.Runs.{run_append}

-- the run goes on behind a word
pub after_word : (m n : Machine) (w : ℕ) (ws others : List ℕ) → ws ≡ w ∷ others → n ≡ step m w → run n others ≡ run m ws
unfolding run
after_word m n w ws others e q = ap (λ (x : Machine). run x others) q ∙ ap (λ (l : List ℕ). run m l) (sym e)

-- the run goes on behind k words
pub after_words : (m n : Machine) (k : ℕ) (ws front back : List ℕ) → front ≡ take k ws → back ≡ drop k ws → n ≡ run m front → run n back ≡ run m ws
after_words m n k ws front back f b q =
    ap (λ (x : Machine). run x back) q ∙ sym (run_append m front back) ∙ ap (λ (l : List ℕ). run m l) (ap₂ ◌++◌ f b ∙ take-append-drop k ws)

-- none is left
pub none_left : (m : Machine) (ws : List ℕ) → length ws ≡ 0 → run m ws ≡ m
unfolding run
none_left m [] h = refl
none_left m (w ∷ ws) h = absurd (omega arith)
