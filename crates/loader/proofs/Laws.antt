-- One word, and a run word by word.
use Rattle.std.proofs.Common.{◌≡◌, sym, ◌∙◌, ap, List, ℕ, ◌+◌, ◌<◌, ◌≤◌, length, get_or, drop, add-one, le_antisymm, drop-cons}
use Rattle.stream.specs.Machine.{Machine, at, step_in, step, run}
use Rattle.stream.specs.declared.Phase.{Phase}
use Rattle.stream.specs.declared.Load.{Load}
use Rattle.std.proofs.Math.Seq.{drop-length}

pub at_phase : (l : Load) (buffer : List ℕ) (w : ℕ) (p : Phase) → l.phase ≡ p → step_in p l buffer w ≡ step (at l buffer) w
unfolding step
at_phase l buffer w p e = ap (λ (x : Phase). step_in x l buffer w) (sym e)

-- one more word has been taken
pub one_more : (m n : Machine) (ws : List ℕ) (i : ℕ) → i < length ws → n ≡ step m (get_or ws i 0) → run n (drop (i + 1) ws) ≡ run m (drop i ws)
unfolding run
one_more m n ws i h e =
    ap (λ (x : Machine). run x (drop (i + 1) ws)) e
    ∙ ap (λ (k : ℕ). run (step m (get_or ws i 0)) (drop k ws)) (add-one i)
    ∙ ap (λ (l : List ℕ). run m l) (sym (drop-cons ws i 0 h))

-- none is left
pub run_end : (m : Machine) (ws : List ℕ) (i : ℕ) → length ws ≤ i → i ≤ length ws → run m (drop i ws) ≡ m
unfolding run
run_end m ws i a b = ap (λ (l : List ℕ). run m l) (ap (λ (n : ℕ). drop n ws) (le_antisymm b a) ∙ drop-length ws)
