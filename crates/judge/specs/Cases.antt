-- A judgement by cases: refused; dropped before the meter; dropped at 9 to 11; sent. Whoever needs to know what a judgement leaves cites this law;
-- outside this crate nothing opens `call_of`, and `judge_of` only K's night, which computes it.
use Rattle.std.specs.Prelude.{◌≡◌, Bool, cond, List, [], ℕ}
use Rattle.std.proofs.Math.Path.{refl}
use Rattle.std.proofs.Common.{sym, eqb-true}
use Rattle.std.proofs.Math.Bool.{true, false}
use Rattle.std.proofs.Math.Dec.{eqb}
use Rattle.std.proofs.lemmas.Bool.{eqb-false}
use Rattle.image.specs.Layout.{image_in}
use Rattle.frame.specs.Bytes.{octets_of}
use Rattle.plan.specs.Enter as entered
use Rattle.plan.specs.Enter.{enter_of}
use Rattle.plan.specs.declared.Course.{Course}
use Rattle.plan.specs.Plan.{Dropped, Goes}
use Rattle.plan.specs.Sane.{Sane}
use Rattle.settle.specs.declared.Verdict.{Verdict}
use Rattle.settle.specs.declared.Verdict.TheVariants.{Refused, Drop, Sent}
use Rattle.settle.specs.Settle.{Judged, judged, carried_out}
use Rattle.settle.specs.Carried.{carried_by_cases}
use Rattle.settle.specs.Note.{noted}
use Rattle.replica.specs.Replica.{replicas_of}
use Rattle.replica.specs.Keeps.{Keeps}
use Rattle.replica.proofs.ReplicaCases.{replicas_keep}
use Rattle.judge.specs.Refusal.{refusal_of}
use Rattle.judge.specs.Judge.{plan_for, noted_of, judge_of, entered_of, call_of}
use Rattle.judge.specs.Admitted.{Admitted}
use Rattle.judge.specs.Laws.{admitted, plan_follows}
use Rattle.settle.specs.After.{spent_at, row_after}

module _ (buffer g : List ℕ) (port time : ℕ) (frame : List ℕ) (P : Judged → Type 0) where
  pub by_cases : ((refusal_of buffer g port time frame ≡ 0 → ⊥) → P (judged (Refused (refusal_of buffer g port time frame)) g))
      → (Admitted buffer g port time frame → (n : ℕ) → plan_for (image_in buffer) port frame ≡ Dropped n
      → P (judged (Drop n) (noted g port time (octets_of frame) true)))
      → (Admitted buffer g port time frame → (w : Course) → plan_for (image_in buffer) port frame ≡ Goes w → Sane (image_in buffer) w
      → ((spent_at g w time (octets_of frame)).drop ≡ 0 → ⊥)
      → P (judged (Drop (spent_at g w time (octets_of frame)).drop) (noted (row_after g w time (octets_of frame)) port time (octets_of frame) true)))
      → (Admitted buffer g port time frame → (w : Course) → plan_for (image_in buffer) port frame ≡ Goes w → Sane (image_in buffer) w
      → (spent_at g w time (octets_of frame)).drop ≡ 0
      → P (judged (Sent w.sending) (noted (row_after g w time (octets_of frame)) port time (octets_of frame) false)))
      → P (judge_of buffer g port time frame)
  unfolding judge_of
  by_cases refused early dropped sent = by (eqb (refusal_of buffer g port time frame) 0) refl
    where
      by : (t : Bool) → t ≡ eqb (refusal_of buffer g port time frame) 0
          → P (cond t (noted_of port time (octets_of frame) (carried_out g time (octets_of frame) (plan_for (image_in buffer) port frame)))
          (judged (Refused (refusal_of buffer g port time frame)) g))
      by true e =
          let a = admitted buffer g port time frame (eqb-true (refusal_of buffer g port time frame) 0 (sym e)) in
          carried_by_cases (image_in buffer) g time (octets_of frame) (λ (j : Judged). P (noted_of port time (octets_of frame) j)) (plan_for (image_in buffer) port frame)
          (plan_follows (image_in buffer) port frame)
          (early a)
          (dropped a)
          (sent a)
      by false e = refused (eqb-false (refusal_of buffer g port time frame) 0 (sym e))

-- a call with its replicas: what holds of the frame by itself and is kept by each replica of a frame that steps 1 to 6 let in
pub call_keeps : (buffer g : List ℕ) (port time : ℕ) (frame : List ℕ) (P : List Verdict → List ℕ → Type 0) → P [] (judge_of buffer g port time frame).row
    → (refusal_of buffer g port time frame ≡ 0 → (vlan place priority : ℕ) → enter_of (image_in buffer) port frame ≡ entered.In vlan place priority
    → Keeps (image_in buffer) port time frame P priority)
    → P (call_of buffer g port time frame).replicas (call_of buffer g port time frame).row
unfolding call_of entered_of
call_keeps buffer g port time frame P none keeps = by (eqb (refusal_of buffer g port time frame) 0) refl
  where
    by : (t : Bool) → t ≡ eqb (refusal_of buffer g port time frame) 0
        → P (replicas_of (image_in buffer) (judge_of buffer g port time frame).row port time frame
        (cond t (enter_of (image_in buffer) port frame) (entered.Dropped (refusal_of buffer g port time frame)))).verdicts
        (replicas_of (image_in buffer) (judge_of buffer g port time frame).row port time frame
        (cond t (enter_of (image_in buffer) port frame) (entered.Dropped (refusal_of buffer g port time frame)))).row
    by true e =
        replicas_keep (image_in buffer) (judge_of buffer g port time frame).row port time frame P (enter_of (image_in buffer) port frame) none
        (keeps (eqb-true (refusal_of buffer g port time frame) 0 (sym e)))
    by false e = none
