-- One frame (document 01, "One frame, step by step") with its replicas (document 02, request 2): the verdicts, the whole row and the lent places
-- afterwards, for every buffer, row, port, time, frame and places.
use Rattle.std.specs.Prelude.{◌≡◌, cond, List, [], ◌∷◌, ℕ, eqb, length}
use Rattle.laws.specs.Says.{Says, says}
use Rattle.image.specs.Layout.{image_in}
use Rattle.frame.specs.Bytes.{octets_of}
use Rattle.plan.specs.Enter.{Entered, enter_of}
use Rattle.plan.specs.Enter as entered
use Rattle.plan.specs.Plan.{Planned, Dropped, plan_of}
use Rattle.settle.specs.declared.Verdict.{Verdict}
use Rattle.settle.specs.declared.Verdict.TheVariants.{Refused, Drop, Sent}
use Rattle.settle.specs.Settle.{Judged, judged, carried_out}
use Rattle.settle.specs.Note.{is_drop, noted}
use Rattle.places.specs.Places.{laid_over}
use Rattle.replica.specs.Replica.{Replicas, replicas, replicas_of}
use Rattle.judge.specs.declared.Judgement.{Judgement}
use Rattle.judge.specs.Refusal.{refusal_of}

-- what a verdict says in document 01's terms: the refusal's number; the drop's; or, as the program prints them, ports, VLAN, q, tags and the five queues
abbrev pub said_of : Verdict → Says
said_of (Refused n) = says 0 n []
said_of (Drop n) = says 1 n []
said_of (Sent s) =
    says 2 0 (s.ports ∷ s.vlan ∷ s.priority ∷ s.tags ∷ s.queue0 ∷ s.queue1 ∷ s.queue2 ∷ s.queue3 ∷ s.queue4 ∷ [])

-- a frame's own plan: the drop of steps 1 to 6, or the plan on the VLAN that it came in on
abbrev pub by_entry : List ℕ → ℕ → List ℕ → Entered → Planned
by_entry image port frame (entered.Dropped n) = Dropped n
by_entry image port frame (entered.In vlan place priority) = plan_of image port frame vlan place priority

unfoldable pub plan_for : List ℕ → ℕ → List ℕ → Planned
plan_for image port frame = by_entry image port frame (enter_of image port frame)

abbrev pub noted_of : ℕ → ℕ → ℕ → Judged → Judged
noted_of port time l j = judged j.verdict (noted j.row port time l (is_drop j.verdict))

-- the frame by itself: refused with the row unchanged, or judged, its plan carried out and its verdict noted
unfoldable pub judge_of : List ℕ → List ℕ → ℕ → ℕ → List ℕ → Judged
judge_of buffer g port time frame =
    cond (eqb (refusal_of buffer g port time frame) 0)
    (noted_of port time (octets_of frame) (carried_out g time (octets_of frame) (plan_for (image_in buffer) port frame)))
    (judged (Refused (refusal_of buffer g port time frame)) g)

-- what steps 1 to 6 answer of a frame that is judged; one that is refused does not get past them
unfoldable pub entered_of : List ℕ → List ℕ → ℕ → ℕ → List ℕ → Entered
entered_of buffer g port time frame =
    cond (eqb (refusal_of buffer g port time frame) 0) (enter_of (image_in buffer) port frame) (entered.Dropped (refusal_of buffer g port time frame))

-- a frame's verdict, its replicas' verdicts in order, and the row afterwards
pub record Called : Type 0 where
  pub verdict : Verdict
  pub replicas : List Verdict
  pub row : List ℕ

abbrev pub called : Judged → Replicas → Called
called j r = record { verdict = j.verdict; replicas = r.verdicts; row = r.row }

-- a frame that has none
abbrev pub by_itself : Judged → Called
by_itself j = called j (replicas [] j.row)

-- "right after the original's": the replicas, on the row that the frame by itself leaves
unfoldable pub call_of : List ℕ → List ℕ → ℕ → ℕ → List ℕ → Called
call_of buffer g port time frame =
    called (judge_of buffer g port time frame)
    (replicas_of (image_in buffer) (judge_of buffer g port time frame).row port time frame (entered_of buffer g port time frame))

abbrev pub answer_of : Called → Judgement
answer_of c = record { verdict = c.verdict; replicas = length c.replicas }

-- what a frame's call answers and leaves
pub record Judges (buffer g : List ℕ) (port time : ℕ) (frame places : List ℕ) (r : Judgement) (after told : List ℕ) : Type 0 where
  pub answer : r ≡ answer_of (call_of buffer g port time frame)
  pub said : said_of r.verdict ≡ said_of (call_of buffer g port time frame).verdict
  pub row : after ≡ (call_of buffer g port time frame).row
  pub laid : told ≡ laid_over (call_of buffer g port time frame).replicas places
