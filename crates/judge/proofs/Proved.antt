-- What pins a judgement: a refused one changes nothing and has no replica, a buffer's rest has no part in it, and a frame with no entry of 12 to name it is
-- judged by itself.
use Rattle.std.specs.Prelude.{◌≡◌, refl, Bool, true, false, cond, List, [], ℕ, ◌<◌, ◌≤◌, eqb, length}
use Rattle.std.proofs.Common.{sym, ◌∙◌, ap, subst, zero-le, le_trans, ne_eqb, eqb-true}
use Rattle.image.specs.Layout.{image_in, count_of}
use Rattle.image.specs.declared.tables.Table.TheVariants.{Retagging}
use Rattle.image.specs.Loaded.{too_short}
use Rattle.image.specs.Sound.{Sound}
use Rattle.ledger.specs.Range.{standing}
use Rattle.ledger.specs.Proved.{same_standing}
use Rattle.frame.specs.Bytes.{octets_of}
use Rattle.plan.specs.Enter.{Entered, enter_of}
use Rattle.plan.specs.Enter as entered
use Rattle.settle.specs.declared.Verdict.TheVariants.{Refused}
use Rattle.settle.specs.Settle.{Judged, judged, carried_out}
use Rattle.replica.specs.Replica.{names, replicas, replicas_of}
use Rattle.replica.proofs.Proved.{one_each, none_named}
use Rattle.judge.specs.declared.Judgement.{Judgement}
use Rattle.judge.specs.Refusal.{unjudged, refusal_of}
use Rattle.judge.specs.Judge.{plan_for, noted_of, judge_of, entered_of, Called, called, by_itself, call_of, Judges}
use Rattle.judge.specs.Laws.{admitted}

-- "call refusals .. change nothing"
pub refused_unchanged : (buffer g : List ℕ) (port time : ℕ) (frame : List ℕ) → (refusal_of buffer g port time frame ≡ 0 → ⊥)
    → judge_of buffer g port time frame ≡ judged (Refused (refusal_of buffer g port time frame)) g
unfolding judge_of
refused_unchanged buffer g port time frame h =
    ap
    (λ (t : Bool). cond t (noted_of port time (octets_of frame) (carried_out g time (octets_of frame) (plan_for (image_in buffer) port frame)))
    (judged (Refused (refusal_of buffer g port time frame)) g)) (ne_eqb _ 0 h)

-- a buffer's rest has no part in it: two buffers that are both long enough, or both too short, with one image, give one outcome
pub same_judgement : (a b : List ℕ) → too_short a ≡ too_short b → image_in a ≡ image_in b → (g : List ℕ) (port time : ℕ) (frame : List ℕ)
    → judge_of a g port time frame ≡ judge_of b g port time frame
unfolding judge_of refusal_of
same_judgement a b long image g port time frame =
    ap (λ (n : ℕ). told (image_in a) (cond (eqb n 0) (unjudged g port time frame) n)) (same_standing a b long image g)
    ∙ ap (λ (i : List ℕ). told i (cond (eqb (standing b g) 0) (unjudged g port time frame) (standing b g))) image
  where
    told : List ℕ → ℕ → Judged
    told i n = cond (eqb n 0) (noted_of port time (octets_of frame) (carried_out g time (octets_of frame) (plan_for i port frame))) (judged (Refused n) g)

-- ---- with its replicas

-- the verdict is that of the frame by itself
pub own_verdict : (buffer g : List ℕ) (port time : ℕ) (frame : List ℕ) → (call_of buffer g port time frame).verdict ≡ (judge_of buffer g port time frame).verdict
unfolding call_of
own_verdict buffer g port time frame = refl

-- a refused frame has none, and the row stays
pub refused_call : (buffer g : List ℕ) (port time : ℕ) (frame : List ℕ) → (refusal_of buffer g port time frame ≡ 0 → ⊥)
    → call_of buffer g port time frame ≡ by_itself (judged (Refused (refusal_of buffer g port time frame)) g)
unfolding call_of entered_of
refused_call buffer g port time frame h =
    ap (λ (t : Bool). whole (judge_of buffer g port time frame) (cond t (enter_of (image_in buffer) port frame) (entered.Dropped (refusal_of buffer g port time frame)))) (ne_eqb _ 0 h)
    ∙ ap (λ (j : Judged). whole j (entered.Dropped (refusal_of buffer g port time frame))) (refused_unchanged buffer g port time frame h)
  where
    whole : Judged → Entered → Called
    whole j q = called j (replicas_of (image_in buffer) j.row port time frame q)

pub same_call : (a b : List ℕ) → too_short a ≡ too_short b → image_in a ≡ image_in b → (g : List ℕ) (port time : ℕ) (frame : List ℕ)
    → call_of a g port time frame ≡ call_of b g port time frame
unfolding call_of entered_of refusal_of
same_call a b long image g port time frame =
    ap (λ (j : Judged). told (image_in a) j (refusal_of a g port time frame)) (same_judgement a b long image g port time frame)
    ∙ ap (λ (n : ℕ). told (image_in a) (judge_of b g port time frame) (cond (eqb n 0) (unjudged g port time frame) n)) (same_standing a b long image g)
    ∙ ap (λ (i : List ℕ). told i (judge_of b g port time frame) (refusal_of b g port time frame)) image
  where
    told : List ℕ → Judged → ℕ → Called
    told i j n = called j (replicas_of i j.row port time frame (cond (eqb n 0) (enter_of i port frame) (entered.Dropped n)))

-- a frame whose VLAN and port no entry of 12 names
pub no_match : (buffer g : List ℕ) (port time : ℕ) (frame : List ℕ)
    → ((vlan place priority : ℕ) → enter_of (image_in buffer) port frame ≡ entered.In vlan place priority → (i : ℕ) → i < count_of (image_in buffer) Retagging
    → names (image_in buffer) port vlan i ≡ false)
    → call_of buffer g port time frame ≡ by_itself (judge_of buffer g port time frame)
unfolding call_of entered_of
no_match buffer g port time frame none = ap (called (judge_of buffer g port time frame)) (by (eqb (refusal_of buffer g port time frame) 0))
  where
    let_in : (q : Entered) → enter_of (image_in buffer) port frame ≡ q
        → replicas_of (image_in buffer) (judge_of buffer g port time frame).row port time frame q ≡ replicas [] (judge_of buffer g port time frame).row
    let_in (entered.Dropped n) e = refl
    let_in (entered.In vlan place priority) e =
        none_named (image_in buffer) (judge_of buffer g port time frame).row port time frame vlan priority (count_of (image_in buffer) Retagging) (none vlan place priority e)

    by : (t : Bool)
        → replicas_of (image_in buffer) (judge_of buffer g port time frame).row port time frame
        (cond t (enter_of (image_in buffer) port frame) (entered.Dropped (refusal_of buffer g port time frame)))
        ≡ replicas [] (judge_of buffer g port time frame).row
    by true = let_in (enter_of (image_in buffer) port frame) refl
    by false = refl

-- 12 has at most 32 entries in an image that is judged: there is a lent place for each replica
at_most_32 : (buffer g : List ℕ) (port time : ℕ) (frame : List ℕ) → length (call_of buffer g port time frame).replicas ≤ 32
unfolding call_of entered_of
at_most_32 buffer g port time frame = by (eqb (refusal_of buffer g port time frame) 0) refl
  where
    let_in : Sound buffer → (q : Entered) → length (replicas_of (image_in buffer) (judge_of buffer g port time frame).row port time frame q).verdicts ≤ 32
    let_in s (entered.Dropped n) = zero-le
    let_in s (entered.In vlan place priority) =
        le_trans (one_each (image_in buffer) (judge_of buffer g port time frame).row port time frame vlan priority (count_of (image_in buffer) Retagging)) (s.within.within Retagging)

    by : (t : Bool) → t ≡ eqb (refusal_of buffer g port time frame) 0
        → length
        (replicas_of (image_in buffer) (judge_of buffer g port time frame).row port time frame
        (cond t (enter_of (image_in buffer) port frame) (entered.Dropped (refusal_of buffer g port time frame)))).verdicts
        ≤ 32
    by true e = let_in (admitted buffer g port time frame (eqb-true (refusal_of buffer g port time frame) 0 (sym e))).image (enter_of (image_in buffer) port frame)
    by false e = zero-le

pub few_replicas : (buffer g : List ℕ) (port time : ℕ) (frame places : List ℕ) (r : Judgement) (after told : List ℕ) → Judges buffer g port time frame places r after told
    → r.replicas ≤ 32
few_replicas buffer g port time frame places r after told p =
    subst (λ (j : Judgement). j.replicas ≤ 32) (sym p.answer) (at_most_32 buffer g port time frame)
