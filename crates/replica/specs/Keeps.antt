-- What each replica keeps, by cases, as a frame's.
use Rattle.std.specs.Prelude.{◌≡◌, List, [], ◌∷◌, ◌++◌, ℕ}
use Rattle.frame.specs.Bytes.{octets_of}
use Rattle.plan.specs.declared.Course.{Course}
use Rattle.plan.specs.Plan.{Dropped, Goes}
use Rattle.plan.specs.Sane.{Sane}
use Rattle.settle.specs.declared.Verdict.{Verdict}
use Rattle.settle.specs.declared.Verdict.TheVariants.{Drop, Sent}
use Rattle.settle.specs.After.{spent_at, row_after}
use Rattle.replica.specs.Replica.{replica_plan}

-- what is said of the verdicts so far and of the row is kept by one more replica with this priority: dropped before the meter, dropped at 9 to 11, or sent
pub record Keeps (image : List ℕ) (port time : ℕ) (frame : List ℕ) (P : List Verdict → List ℕ → Type 0) (priority : ℕ) : Type 0 where
  pub early : (vs : List Verdict) (h : List ℕ) (v n : ℕ) → replica_plan image port frame v priority ≡ Dropped n → P vs h → P (vs ++ (Drop n ∷ [])) h
  pub dropped : (vs : List Verdict) (h : List ℕ) (v : ℕ) (w : Course) → replica_plan image port frame v priority ≡ Goes w → Sane image w
      → ((spent_at h w time (octets_of frame)).drop ≡ 0 → ⊥)
      → P vs h
      → P (vs ++ (Drop (spent_at h w time (octets_of frame)).drop ∷ [])) (row_after h w time (octets_of frame))
  pub sent : (vs : List Verdict) (h : List ℕ) (v : ℕ) (w : Course) → replica_plan image port frame v priority ≡ Goes w → Sane image w
      → (spent_at h w time (octets_of frame)).drop ≡ 0
      → P vs h
      → P (vs ++ (Sent w.sending ∷ [])) (row_after h w time (octets_of frame))
