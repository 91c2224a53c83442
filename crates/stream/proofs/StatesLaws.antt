-- What a function leaves, carried over to an equal machine, and back.
use Rattle.std.proofs.Common.{◌≡◌, ◌∙◌, ap, List, ℕ}
use Rattle.stream.specs.Machine.{Machine, at}
use Rattle.stream.specs.declared.Load.{Load}
use Rattle.stream.specs.Leaves.{Leaves}

-- what is left is also an equal machine's
pub so : {m n : Machine} {r : Load} {b : List ℕ} → m ≡ n → Leaves m r b → Leaves n r b
so e l = record { state = l.state ∙ ap (λ (x : Machine). x.load) e; kept = l.kept ∙ ap (λ (x : Machine). x.buffer) e }

pub leaves_at : {m : Machine} {r : Load} {b : List ℕ} → Leaves m r b → at r b ≡ m
leaves_at {m} {r} {b} l = ap (λ (x : Load). at x b) l.state ∙ ap (λ (x : List ℕ). at m.load x) l.kept

pub at_leaves : {m : Machine} {r : Load} {b : List ℕ} → at r b ≡ m → Leaves m r b
at_leaves e = record { state = ap (λ (x : Machine). x.load) e; kept = ap (λ (x : Machine). x.buffer) e }
