-- That a frame which is not refused has it, its plan, and its promise.
use Rattle.std.specs.Prelude.{◌≡◌, refl, Bool, true, false, cond, Option, Result, Ok, Err, IfSome, List, ℕ, ◌<◌, ◌≤◌, ltb, leb, eqb, length}
use Rattle.std.proofs.Common.{sym, ◌∙◌, ap, subst, arith, ltb-false, leb-false, eqb-true}
use Rattle.std.proofs.lemmas.Bool.{eqb-false}
use Rattle.std.specs.Result.{result_ok}
use Rattle.laws.specs.Chain.{none_first, none_rest, zero_first, zero_rest, at_zero, not_zero}
use Rattle.image.specs.Layout.{image_in}
use Rattle.image.specs.Sound.{Sound}
use Rattle.ledger.specs.Row.{frames, last, cell}
use Rattle.ledger.specs.Range.{latest, standing}
use Rattle.ledger.specs.Stands.{Stands}
use Rattle.ledger.proofs.Laws.{stands}
use Rattle.frame.specs.Bytes.{octets_of, destination_of}
use Rattle.plan.specs.Enter.{Entered, enter_of}
use Rattle.plan.specs.Enter as entered
use Rattle.drops.specs.declared.Dropped as drops
use Rattle.plan.specs.declared.enter.Entrant.{Entrant}
use Rattle.plan.specs.declared.Arrival.{Arrival}
use Rattle.plan.specs.Arrival.{arrival_of}
use Rattle.plan.specs.Answered.{entered_in}
use Rattle.plan.specs.LetIn.{LetIn, Through}
use Rattle.plan.specs.Police.{Policed, policed_of}
use Rattle.plan.specs.Plan.{by_policer, plan_of, Planned, Dropped}
use Rattle.plan.specs.Sane.{Follows}
use Rattle.plan.proofs.Laws.{follows}
use Rattle.settle.specs.declared.Verdict.{Verdict}
use Rattle.settle.specs.declared.Verdict.TheVariants.{Refused, Drop}
use Rattle.settle.specs.Settle.{Judged, judged, carried_out, Carries}
use Rattle.settle.specs.Note.{is_drop, noted}
use Rattle.settle.specs.Runs.{RunsAll}
use Rattle.settle.specs.RunsLaws.{plan_runs}
use Rattle.settle.specs.Laws.{carries_as, drop_carries}
use Rattle.places.specs.Places.{laid_over}
use Rattle.replica.specs.Replica.{Replicas, replicas_of, replicas_for, Replicates}
use Rattle.replica.proofs.ReplicaLaws.{none_of, for_entered}
use Rattle.judge.specs.declared.Judgement.{Judgement}
use Rattle.judge.specs.Refusal.{mistimed, unjudged, refusal_of}
use Rattle.judge.specs.Judge.{said_of, by_entry, plan_for, noted_of, judge_of, entered_of, Called, called, call_of, answer_of, Judges}
use Rattle.judge.specs.Admitted.{Admitted}

pub admitted : (buffer g : List ℕ) (port time : ℕ) (frame : List ℕ) → refusal_of buffer g port time frame ≡ 0 → Admitted buffer g port time frame
unfolding refusal_of
admitted buffer g port time frame e = by (eqb (standing buffer g) 0) refl e
  where
    five : (n : ℕ) → n ≤ 4 → n < 5
    five n h = omega arith

    rest : Stands buffer g → unjudged g port time frame ≡ 0 → Admitted buffer g port time frame
    rest s q =
        let inside = five port (ltb-false 4 port (zero_first (ltb 4 port) 32 _ q)) in
        let q2 = zero_rest (ltb 4 port) 32 _ q in
        let q3 = zero_rest (mistimed (cell g last 0) time) 33 _ q2 in
        let q4 = zero_rest (ltb 4096 (length frame)) 34 _ q3 in
        let t = zero_first (mistimed (cell g last 0) time) 33 _ q2 in
        record {
          image = s.image;
          ledger = s.ledger;
          inside = inside;
          later = ltb-false time (cell g last 0) (none_first (ltb time (cell g last 0)) _ t);
          early = ltb-false latest time (none_rest (ltb time (cell g last 0)) _ t);
          short = ltb-false 4096 (length frame) (zero_first (ltb 4096 (length frame)) 34 _ q3);
          countable =
              record {
                tile = s.ledger.tiled port inside;
                room = leb-false 4294967295 (cell g frames port) (zero_first (leb 4294967295 (cell g frames port)) 37 _ q4);
              };
        }

    by : (t : Bool) → t ≡ eqb (standing buffer g) 0 → cond t (unjudged g port time frame) (standing buffer g) ≡ 0 → Admitted buffer g port time frame
    by true h q = rest (stands buffer g (eqb-true (standing buffer g) 0 (sym h))) q
    by false h q = absurd (eqb-false (standing buffer g) 0 (sym h) q)

-- by a number n that the refusals come to
pub admitted_as : (buffer g : List ℕ) (port time : ℕ) (frame : List ℕ) (n : ℕ) → n ≡ refusal_of buffer g port time frame → n ≡ 0
    → Admitted buffer g port time frame
admitted_as buffer g port time frame n e z = admitted buffer g port time frame (sym e ∙ z)

-- ---- a plan

entry_follows : (image : List ℕ) (port : ℕ) (frame : List ℕ) (q : Entered) → Follows image (by_entry image port frame q)
entry_follows image port frame (entered.Dropped n) = tt
entry_follows image port frame (entered.In vlan place priority) = follows image port frame vlan place priority

pub plan_follows : (image : List ℕ) (port : ℕ) (frame : List ℕ) → Follows image (plan_for image port frame)
unfolding plan_for
plan_follows image port frame = entry_follows image port frame (enter_of image port frame)

-- by what steps 1 to 6 answered, q
pub entry_runs : (buffer : List ℕ) (port : ℕ) (frame : List ℕ) (q : Entered) → Sound buffer → RunsAll (by_entry (image_in buffer) port frame q)
entry_runs buffer port frame q s =
    plan_runs buffer (by_entry (image_in buffer) port frame q) (by_entry (image_in buffer) port frame q) s refl (entry_follows (image_in buffer) port frame q)

pub is_dropped : (image g : List ℕ) (port time octets : ℕ) (frame : List ℕ) (q : Entered) (n : ℕ) → q ≡ entered.Dropped n
    → Carries g time octets (by_entry image port frame q) (Drop n) g
is_dropped image g port time octets frame q n e =
    carries_as g time octets (by_entry image port frame q) (Dropped n) (Drop n) g (ap (by_entry image port frame) e) (drop_carries g time octets n)

pub is_let_in : (image g : List ℕ) (port time octets : ℕ) (frame : List ℕ) (q : Entered) (vlan place priority : ℕ) (r : Verdict) (after : List ℕ)
    → q ≡ entered.In vlan place priority
    → Carries g time octets (plan_of image port frame vlan place priority) r after
    → Carries g time octets (by_entry image port frame q) r after
is_let_in image g port time octets frame q vlan place priority r after e c =
    carries_as g time octets (by_entry image port frame q) (plan_of image port frame vlan place priority) r after (ap (by_entry image port frame) e) c

-- by what 7 and 8 answered, k
pub is_policed : (image g : List ℕ) (port time octets destination vlan place priority : ℕ) (q k : Policed) (r : Verdict) (after : List ℕ)
    → q ≡ policed_of image port priority destination octets
    → q ≡ k
    → Carries g time octets (by_policer image port destination vlan place priority k) r after
    → Carries g time octets (by_policer image port destination vlan place priority (policed_of image port priority destination octets)) r after
is_policed image g port time octets destination vlan place priority q k r after e h =
    carries_as g time octets (by_policer image port destination vlan place priority (policed_of image port priority destination octets))
    (by_policer image port destination vlan place priority k) r after (ap (by_policer image port destination vlan place priority) (sym e ∙ h))

-- by how the frame came, a, and what 7 and 8 answered, k
pub policed_is : (image g : List ℕ) (port time : ℕ) (frame : List ℕ) (vlan place priority : ℕ) (a : Arrival) (q k : Policed) (r : Verdict) (after : List ℕ)
    → a ≡ arrival_of port time frame
    → q ≡ policed_of image a.port priority a.destination a.octets
    → q ≡ k
    → Carries g a.time a.octets (by_policer image a.port a.destination vlan place priority k) r after
    → Carries g time (octets_of frame) (plan_of image port frame vlan place priority) r after
unfolding plan_of
policed_is image g port time frame vlan place priority a q k r after e p h c =
    let police = subst (λ (x : Arrival). q ≡ policed_of image x.port priority x.destination x.octets) e p in
    carries_as g time (octets_of frame) _ _ r after (ap (by_policer image port (destination_of frame) vlan place priority) (sym police ∙ h))
    (subst (λ (x : Arrival). Carries g x.time x.octets (by_policer image x.port x.destination vlan place priority k) r after) e c)

-- what a frame that was let in has
pub some_let_in : (image frame : List ℕ) (e : Result Entrant drops.Dropped) (o : Option Entrant) → o ≡ result_ok e → Through image frame (entered_in e)
    → IfSome o (λ x. LetIn image frame x.place x.priority)
some_let_in image frame e o is t = subst (λ (y : Option Entrant). IfSome y (λ x. LetIn image frame x.place x.priority)) (sym is) (go e t)
  where
    go : (e : Result Entrant drops.Dropped) → Through image frame (entered_in e) → IfSome (result_ok e) (λ x. LetIn image frame x.place x.priority)
    go (Ok x) t = t
    go (Err d) t = tt

-- ---- the promise

judges : (buffer g : List ℕ) (port time : ℕ) (frame places : List ℕ) (j : Judged) (q : Entered) (n : ℕ) (after told : List ℕ)
    → j ≡ judge_of buffer g port time frame
    → q ≡ entered_of buffer g port time frame
    → Replicates (replicas_of (image_in buffer) j.row port time frame q) places n after told
    → Judges buffer g port time frame places (record { verdict = j.verdict; replicas = n }) after told
unfolding call_of
judges buffer g port time frame places j q n after told e f r =
    record {
      answer = ap (λ (m : ℕ). judgement j.verdict m) r.many ∙ ap answer_of is;
      said = ap (λ (c : Called). said_of c.verdict) is;
      row = r.left ∙ ap (λ (c : Called). c.row) is;
      laid = r.laid ∙ ap (λ (c : Called). laid_over c.replicas places) is;
    }
  where
    judgement : Verdict → ℕ → Judgement
    judgement v m = record { verdict = v; replicas = m }

    is : called j (replicas_of (image_in buffer) j.row port time frame q) ≡ call_of buffer g port time frame
    is =
        ap (λ (x : Entered). called j (replicas_of (image_in buffer) j.row port time frame x)) f
        ∙ ap (λ (k : Judged). called k (replicas_of (image_in buffer) k.row port time frame (entered_of buffer g port time frame))) e

-- a number n that the refusals come to refuses
pub is_refused : (buffer g : List ℕ) (port time : ℕ) (frame places : List ℕ) (n : ℕ) → n ≡ refusal_of buffer g port time frame → (n ≡ 0 → ⊥)
    → Judges buffer g port time frame places (record { verdict = Refused n; replicas = 0 }) g places
unfolding judge_of entered_of
is_refused buffer g port time frame places n e z =
    judges buffer g port time frame places (judged (Refused n) g) (entered.Dropped n) 0 g places (not_zero n _ _ _ _ e z (ap (λ (m : ℕ). judged (Refused m) g) e))
    (not_zero n _ _ _ _ e z (ap entered.Dropped e))
    (none_of (image_in buffer) g port time frame (entered.Dropped n) n places refl)

-- or does not: the plan is carried out, its verdict noted, and the replicas follow
pub is_judged : (buffer g : List ℕ) (port time : ℕ) (frame places : List ℕ) (n : ℕ) (q : Entered) (r : Verdict) (mid left : List ℕ) (d : Bool) (m : ℕ) (after told : List ℕ)
    → n ≡ refusal_of buffer g port time frame
    → n ≡ 0
    → q ≡ enter_of (image_in buffer) port frame
    → Carries g time (octets_of frame) (by_entry (image_in buffer) port frame q) r mid
    → d ≡ is_drop r
    → left ≡ noted mid port time (octets_of frame) d
    → Replicates (replicas_of (image_in buffer) left port time frame q) places m after told
    → Judges buffer g port time frame places (record { verdict = r; replicas = m }) after told
unfolding judge_of entered_of plan_for
is_judged buffer g port time frame places n q r mid left d m after told e z i x f h t =
    judges buffer g port time frame places (judged r left) q m after told
    (at_zero n _ _ _ _ e z
    (ap (judged r) (h ∙ ap (noted mid port time (octets_of frame)) f)
    ∙ ap (λ (j : Judged). noted_of port time (octets_of frame) j) (ap (λ (v : Verdict). judged v mid) x.verdict ∙ ap (judged (carried_out g time (octets_of frame) (by_entry (image_in buffer) port frame q)).verdict) x.row)
    ∙ ap (λ (j : Planned). noted_of port time (octets_of frame) (carried_out g time (octets_of frame) j)) (ap (by_entry (image_in buffer) port frame) i)))
    (at_zero n _ _ _ _ e z i)
    t

-- by the code's answers
pub is_judged_as : (buffer g : List ℕ) (port time : ℕ) (frame places : List ℕ) (n : ℕ) (e : Result Entrant drops.Dropped) (o : Option Entrant) (r v : Verdict) (mid left : List ℕ) (d : Bool) (m : ℕ) (after told : List ℕ)
    → n ≡ refusal_of buffer g port time frame
    → n ≡ 0
    → entered_in e ≡ enter_of (image_in buffer) port frame
    → v ≡ r
    → Carries g time (octets_of frame) (by_entry (image_in buffer) port frame (entered_in e)) r mid
    → d ≡ is_drop v
    → left ≡ noted mid port time (octets_of frame) d
    → o ≡ result_ok e
    → Replicates (replicas_for (image_in buffer) left port time frame o) places m after told
    → Judges buffer g port time frame places (record { verdict = v; replicas = m }) after told
is_judged_as buffer g port time frame places n e o r v mid left d m after told ref z i is x f h some t =
    is_judged buffer g port time frame places n (entered_in e) v mid left d m after told ref z i
    (subst (λ (y : Verdict). Carries g time (octets_of frame) (by_entry (image_in buffer) port frame (entered_in e)) y mid) (sym is) x) f h
    (subst (λ (y : Replicas). Replicates y places m after told)
    (ap (replicas_for (image_in buffer) left port time frame) some ∙ for_entered (image_in buffer) left port time frame e) t)

-- the promise permits one outcome
pub one_judgement : (buffer g : List ℕ) (port time : ℕ) (frame places : List ℕ) (r s : Judgement) (a b t u : List ℕ) → Judges buffer g port time frame places r a t
    → Judges buffer g port time frame places s b u
    → (r ≡ s) × (a ≡ b) × (t ≡ u)
one_judgement buffer g port time frame places r s a b t u p q = (p.answer ∙ sym q.answer, p.row ∙ sym q.row, p.laid ∙ sym q.laid)
