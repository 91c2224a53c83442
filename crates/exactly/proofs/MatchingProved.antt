-- Which frames have replicas, how many, and where these go: whatever the calls' promises permit.
use Rattle.std.specs.Prelude.{◌≡◌, List, [], ◌∷◌, ◌++◌, map, ℕ, suc, ◌<◌}
use Rattle.std.proofs.Common.{sym, ◌∙◌, ap, ⊎_elim, lt-suc_self}
use Rattle.std.proofs.Math.Nat.{le_step}
use Rattle.laws.specs.Scan.{total, flag}
use Rattle.image.specs.Layout.{image_in, count_of}
use Rattle.image.specs.declared.tables.Table.TheVariants.{Retagging}
use Rattle.fields.specs.Fields.{vlan_egr}
use Rattle.lookup.specs.Vlan.{vlan_at}
use Rattle.plan.specs.Enter.{Entered}
use Rattle.plan.specs.Enter as entered
use Rattle.ports.specs.declared.Sending.{Sending}
use Rattle.ports.specs.Ports.{ports_of, sending_of}
use Rattle.settle.specs.declared.Verdict.{Verdict}
use Rattle.settle.specs.declared.Verdict.TheVariants.{Refused, Drop, Sent}
use Rattle.places.specs.Places.{nowhere, ten_of, heard}
use Rattle.replica.specs.Replica.{names}
use Rattle.replica.proofs.Proved.{as_many}
use Rattle.judge.specs.declared.Judgement.{Judgement}
use Rattle.judge.specs.Judge.{judge_of, by_itself, call_of, answer_of, Judges}
use Rattle.judge.proofs.Proved.{own_verdict, no_match}
use Rattle.flat_answers.specs.Answers.{flat_verdict}
use Rattle.flat_frames.specs.declared.FlatJudged.{FlatJudged}
use Rattle.flat_frames.specs.Frames.{JudgesFlat}
use Rattle.exactly.specs.First.{NoneBefore, Some, First, Exactly}
use Rattle.exactly.specs.DecidesLaws.{fails}
use Rattle.exactly.specs.Steps.{vlan_of, priority_of, frame_page, number_in}
use Rattle.exactly.specs.Replicas.{replica_page, replica_verdict_by, Names, InTurn, none, yields, passes}
use Rattle.exactly.specs.Matching.{Each, AsAFrame}
use Rattle.exactly.specs.ReplicasLaws.{is_named}
use Rattle.exactly.specs.StepsProved as steps
use Rattle.exactly.proofs.ReplicasProved as replicas
use Rattle.exactly.proofs.ReplicasProved.{of_flat}
use Rattle.exactly.specs.PastLaws.{past_or_not, let_in, kept_out, called_past, called_alone}

-- ---- which frames have replicas

-- the VLAN that a frame is let in on, and for one that is dropped v
abbrev vlan_in : ℕ → Entered → ℕ
vlan_in v (entered.Dropped n) = v
vlan_in v (entered.In vlan place priority) = vlan

-- where no entry names the frame's VLAN and port, it is judged by itself
alone : (buffer g : List ℕ) (port time : ℕ) (frame : List ℕ)
    → ((i : ℕ) → i < count_of (image_in buffer) Retagging → Names (image_in buffer) port (vlan_of (image_in buffer) port frame) i → ⊥)
    → call_of buffer g port time frame ≡ by_itself (judge_of buffer g port time frame)
alone buffer g port time frame unnamed = ⊎_elim past (kept_out buffer g port time frame) (past_or_not buffer g port time frame)
  where
    v : ℕ
    v = vlan_of (image_in buffer) port frame

    past : NoneBefore 7 (frame_page buffer g port time frame) → call_of buffer g port time frame ≡ by_itself (judge_of buffer g port time frame)
    past p =
        no_match buffer g port time frame
        (λ vlan place priority e i h. ap (λ (x : ℕ). names (image_in buffer) port x i) (ap (vlan_in v) (sym e ∙ (let_in buffer g port time frame p).1))
        ∙ fails _ (is_named (image_in buffer) port v i) (unnamed i h))

-- "on a VLAN and port named by an entry": a frame that no entry names has no replica, and its call says and leaves what the frame by itself does
pub no_match_no_replica : (buffer g : List ℕ) (port time : ℕ) (frame places : List ℕ) (r : Judgement) (after told : List ℕ)
    → Judges buffer g port time frame places r after told
    → ((i : ℕ) → i < count_of (image_in buffer) Retagging → Names (image_in buffer) port (vlan_of (image_in buffer) port frame) i → ⊥)
    → (r.replicas ≡ 0)
    × (r.verdict ≡ (judge_of buffer g port time frame).verdict)
    × (after ≡ (judge_of buffer g port time frame).row)
    × (told ≡ places)
no_match_no_replica buffer g port time frame places r after told p unnamed =
    let c = called_alone buffer g port time frame (alone buffer g port time frame unnamed) places r after told p in
    (c.0, ap (λ (k : Judgement). k.verdict) p.answer ∙ own_verdict buffer g port time frame, c.1, c.2)

pub no_match_no_replica_flat : (buffer g : List ℕ) (port time : ℕ) (frame places : List ℕ) (r : FlatJudged) (after told : List ℕ)
    → JudgesFlat buffer g port time frame places r after told
    → ((i : ℕ) → i < count_of (image_in buffer) Retagging → Names (image_in buffer) port (vlan_of (image_in buffer) port frame) i → ⊥)
    → (r.replicas ≡ 0)
    × (r.verdict ≡ flat_verdict (judge_of buffer g port time frame).verdict)
    × (after ≡ (judge_of buffer g port time frame).row)
    × (told ≡ places)
no_match_no_replica_flat buffer g port time frame places r after told p unnamed =
    let c = no_match_no_replica buffer g port time frame places (answer_of (call_of buffer g port time frame)) after told
    (of_flat buffer g port time frame places r after told p) unnamed in
    (ap (λ (k : FlatJudged). k.replicas) p.answer ∙ c.0, ap (λ (k : FlatJudged). k.verdict) p.answer ∙ ap flat_verdict c.1, c.2, c.3)

-- ---- how many

-- "several matching entries": a frame that gets past drop 6 has as many replicas as entries name its VLAN and port; `names` is the test of it (`is_named`)
pub as_many_as_match : (buffer g : List ℕ) (port time : ℕ) (frame places : List ℕ) (r : Judgement) (after told : List ℕ)
    → Judges buffer g port time frame places r after told
    → NoneBefore 7 (frame_page buffer g port time frame)
    → r.replicas ≡ total (count_of (image_in buffer) Retagging) (λ i. flag (names (image_in buffer) port (vlan_of (image_in buffer) port frame) i))
as_many_as_match buffer g port time frame places r after told p past =
    (called_past buffer g port time frame past places r after told p).0
    ∙ as_many (image_in buffer) (judge_of buffer g port time frame).row port time frame (vlan_of (image_in buffer) port frame)
    (priority_of (image_in buffer) port frame) (count_of (image_in buffer) Retagging)

pub as_many_as_match_flat : (buffer g : List ℕ) (port time : ℕ) (frame places : List ℕ) (r : FlatJudged) (after told : List ℕ)
    → JudgesFlat buffer g port time frame places r after told
    → NoneBefore 7 (frame_page buffer g port time frame)
    → r.replicas ≡ total (count_of (image_in buffer) Retagging) (λ i. flag (names (image_in buffer) port (vlan_of (image_in buffer) port frame) i))
as_many_as_match_flat buffer g port time frame places r after told p past =
    ap (λ (k : FlatJudged). k.replicas) p.answer
    ∙ as_many_as_match buffer g port time frame places (answer_of (call_of buffer g port time frame)) after told
    (of_flat buffer g port time frame places r after told p) past

-- ---- where they go

-- what a verdict is sent with
abbrev sending_in : Verdict → Sending
sending_in (Refused n) = nowhere
sending_in (Drop n) = nowhere
sending_in (Sent s) = s

-- a verdict that a page gives and that is sent is sent with what is said of 0
sent_with : (page : ℕ → Type 0) (said : ℕ → Verdict) (v : Verdict) (s : Sending) → ((n : ℕ) → number_in (said n) ≡ n) → Exactly Verdict page said v → v ≡ Sent s
    → s ≡ sending_in (said 0)
sent_with page said v s back x e =
    let n = x.some.0 in
    let is = x.some.2 in
    ap sending_in (sym e ∙ is ∙ ap said (sym (back n) ∙ ap number_in (sym is ∙ e)))

-- a replica on a VLAN, on whatever row
as_a_frame : (buffer : List ℕ) (port time : ℕ) (frame : List ℕ) (vlan : ℕ) (h : List ℕ) (v : Verdict)
    → Exactly Verdict (First (replica_page (image_in buffer) h port time frame vlan (priority_of (image_in buffer) port frame)))
    (replica_verdict_by (image_in buffer) port frame vlan (priority_of (image_in buffer) port frame)) v
    → AsAFrame buffer port frame vlan v
as_a_frame buffer port time frame vlan h v x s t e g at other places r after told p destination on priority q =
    sent_with _ _ v s (replicas.number_back image port frame vlan (priority_of image port frame)) x e
    ∙ sym
    (sent_with _ _ r.verdict t (steps.number_back buffer port other) (steps.first_that_applies buffer g port at other places r after told p) q
    ∙ (λ i. sending_of image port (ports_of image port (on i) (vlan_at image (on i)) (destination i)) (on i) (priority i) (vlan_at image (on i))))
  where
    image : List ℕ
    image = image_in buffer

module _ (P Q : Verdict → Type 0) (f : (v : Verdict) → P v → Q v) where
  -- what holds of each in one way holds in another, and of one more
  each_more : (vs : List Verdict) (v : Verdict) → Each P vs → Q v → Each Q (vs ++ (v ∷ []))
  each_more [] v ps q = (q, tt)
  each_more (w ∷ vs) v ps q = (f w ps.0, each_more vs v ps.1 q)

  each_same : (vs : List Verdict) → Each P vs → Each Q vs
  each_same [] ps = tt
  each_same (w ∷ vs) ps = (f w ps.0, each_same vs ps.1)

module _ (buffer : List ℕ) (port time : ℕ) (frame : List ℕ) (vlan : ℕ) (g : List ℕ) where
  -- a verdict is of one of the first n entries that name the VLAN and the port, and is as a frame's
  abbrev Of : ℕ → Verdict → Type 0
  Of n v = Some n (λ i. Names (image_in buffer) port vlan i × AsAFrame buffer port frame (vlan_egr (image_in buffer) i) v)

  further : (n : ℕ) (v : Verdict) → Of n v → Of (suc n) v
  further n v s = (s.0, le_step s.1, s.2)

  each_of : (n : ℕ) (vs : List Verdict) (k : List ℕ) → InTurn (image_in buffer) port time frame vlan (priority_of (image_in buffer) port frame) g n vs k → Each (Of n) vs
  each_of _ _ _ none = tt
  each_of _ _ _ (yields {i = i} {vs = vs} {h = h} {v = v} t named x e) =
      each_more (Of i) (Of (suc i)) (further i) vs v (each_of i vs h t) (i, lt-suc_self i, (named, as_a_frame buffer port time frame (vlan_egr (image_in buffer) i) h v x))
  each_of _ _ _ (passes {i = i} {vs = vs} {h = h} t unnamed) = each_same (Of i) (Of (suc i)) (further i) vs (each_of i vs h t)

-- "a replica on the entry's egress VLAN": each replica of a frame that gets past drop 6 is of an entry that names the frame's VLAN and port, and where it is
-- sent it goes as a frame that came in on that entry's VLAN_EGR
pub as_a_frame_on_that_vlan : (buffer g : List ℕ) (port time : ℕ) (frame places : List ℕ) (r : Judgement) (after told : List ℕ)
    → Judges buffer g port time frame places r after told
    → NoneBefore 7 (frame_page buffer g port time frame)
    → (vs : List Verdict)
    × (heard r.replicas told ≡ map ten_of vs)
    × Each
    (λ v. Some (count_of (image_in buffer) Retagging)
    (λ i. Names (image_in buffer) port (vlan_of (image_in buffer) port frame) i × AsAFrame buffer port frame (vlan_egr (image_in buffer) i) v)) vs
as_a_frame_on_that_vlan buffer g port time frame places r after told p past =
    let t = (replicas.replicas_in_turn buffer g port time frame places r after told p).past past in
    (t.0, t.1, each_of buffer port time frame (vlan_of (image_in buffer) port frame) (judge_of buffer g port time frame).row (count_of (image_in buffer) Retagging) t.0 after t.2)
