-- What carrying out a plan comes to, by cases: dropped before the meter; dropped at 9 to 11; sent.
use Rattle.std.specs.Prelude.{◌≡◌, Bool, cond, List, ℕ}
use Rattle.std.proofs.Math.Path.{refl}
use Rattle.std.proofs.Common.{sym, eqb-true}
use Rattle.std.proofs.Math.Bool.{true, false}
use Rattle.std.proofs.Math.Dec.{eqb}
use Rattle.std.proofs.lemmas.Bool.{eqb-false}
use Rattle.plan.specs.declared.Course.{Course}
use Rattle.plan.specs.Plan.{Planned, Dropped, Goes}
use Rattle.plan.specs.Sane.{Sane, Follows}
use Rattle.settle.specs.declared.Verdict.TheVariants.{Drop, Sent}
use Rattle.settle.specs.Settle.{settled_of, Judged, judged, carried_out}
use Rattle.settle.specs.After.{spent_at, row_after}

module _ (image g : List ℕ) (time l : ℕ) (P : Judged → Type 0) where
  -- steps 9 to 11 drop the frame, or do not
  late : (w : Course) → (((spent_at g w time l).drop ≡ 0 → ⊥) → P (judged (Drop (spent_at g w time l).drop) (row_after g w time l)))
      → ((spent_at g w time l).drop ≡ 0 → P (judged (Sent w.sending) (row_after g w time l)))
      → P (carried_out g time l (Goes w))
  unfolding settled_of
  late w dropped sent = go (eqb (spent_at g w time l).drop 0) refl
    where
      go : (t : Bool) → t ≡ eqb (spent_at g w time l).drop 0 → P (judged (cond t (Sent w.sending) (Drop (spent_at g w time l).drop)) (row_after g w time l))
      go true e = sent (eqb-true _ 0 (sym e))
      go false e = dropped (eqb-false _ 0 (sym e))

  pub carried_by_cases : (p : Planned) → Follows image p → ((n : ℕ) → p ≡ Dropped n → P (judged (Drop n) g))
      → ((w : Course) → p ≡ Goes w → Sane image w → ((spent_at g w time l).drop ≡ 0 → ⊥) → P (judged (Drop (spent_at g w time l).drop) (row_after g w time l)))
      → ((w : Course) → p ≡ Goes w → Sane image w → (spent_at g w time l).drop ≡ 0 → P (judged (Sent w.sending) (row_after g w time l)))
      → P (carried_out g time l p)
  carried_by_cases (Dropped n) f early dropped sent = early n refl
  carried_by_cases (Goes w) f early dropped sent = late w (dropped w refl f) (sent w refl f)
