-- A frame that gets past drop 6 has its replicas in turn, another none: whatever its call's promise permits.
use Rattle.std.proofs.Common.{ℕ, zero, suc, ◌≡◌, Bool, true, false, cond, List, [], ◌∷◌, map, eqb, sym, ◌∙◌, ap, subst, true≢false, eqb-true}
use Rattle.std.proofs.Math.Path.{refl}
use Rattle.image.specs.Layout.{image_in, count_of}
use Rattle.image.specs.declared.tables.Table.TheVariants.{Retagging}
use Rattle.fields.specs.Fields.{vlan_egr}
use Rattle.frame.specs.Bytes.{octets_of}
use Rattle.settle.specs.declared.Verdict.{Verdict}
use Rattle.settle.specs.declared.Verdict.TheVariants.{Drop, Sent}
use Rattle.settle.specs.Settle.{carried_out}
use Rattle.places.specs.PlacesLaws.{heard_over}
use Rattle.replica.specs.Replica.{names, replica_plan, Replicas, replicas_to, replicas_in}
use Rattle.replica.proofs.ReplicaLaws.{to_more, to_same}
use Rattle.judge.specs.declared.Judgement.{Judgement}
use Rattle.judge.specs.Judge.{judge_of, call_of, answer_of, Judges}
use Rattle.flat_frames.specs.declared.FlatJudged.{FlatJudged}
use Rattle.flat_frames.specs.Frames.{JudgesFlat}
use Rattle.exactly.specs.First.{Clause, First, At, Exactly}
use Rattle.exactly.specs.FirstLaws.{same_first, first_is, exactly}
use Rattle.exactly.specs.OnVlan.{sending_on}
use Rattle.exactly.specs.Steps.{vlan_of, priority_of, frame_page, number_in}
use Rattle.exactly.specs.Replicas.{replica_page, replica_verdict_by, InTurn, none, yields, passes, Replicated}
use Rattle.exactly.specs.StepTests.{replica_tests}
use Rattle.exactly.specs.ReplicasLaws as replica
use Rattle.exactly.specs.PastLaws.{kept_out, called_past, called_alone}

-- ---- one replica

pub number_back : (image : List ℕ) (port : ℕ) (frame : List ℕ) (vlan priority n : ℕ) → number_in (replica_verdict_by image port frame vlan priority n) ≡ n
number_back image port frame vlan priority n = go (eqb n 0) refl
  where
    go : (z : Bool) → eqb n 0 ≡ z → number_in (cond z (Sent (sending_on image port frame vlan priority)) (Drop n)) ≡ n
    go true e = sym (eqb-true n 0 e)
    go false e = refl

-- the first of its page that applies is its verdict
replica_first : (image g : List ℕ) (port time : ℕ) (frame : List ℕ) (vlan priority : ℕ)
    → Exactly Verdict (First (replica_page image g port time frame vlan priority)) (replica_verdict_by image port frame vlan priority)
    (carried_out g time (octets_of frame) (replica_plan image port frame vlan priority)).verdict
replica_first image g port time frame vlan priority =
    exactly Verdict (First (replica_page image g port time frame vlan priority)) (replica_verdict_by image port frame vlan priority) number_in _ _
    (number_back image port frame vlan priority) (same_first (replica_page image g port time frame vlan priority))
    (first_is (replica_page image g port time frame vlan priority) (replica_tests image g port time frame vlan priority)
    (replica.decided image g port time frame vlan priority)) (replica.replica_is image g port time frame vlan priority)

-- ---- entry after entry

module _ (image g : List ℕ) (port time : ℕ) (frame : List ℕ) (vlan priority : ℕ) where
  pub in_turn : (n : ℕ)
      → InTurn image port time frame vlan priority g n (replicas_to image g port time frame vlan priority n).verdicts
      (replicas_to image g port time frame vlan priority n).row
  unfolding replicas_to
  in_turn zero = none
  in_turn (suc n) = by (names image port vlan n) refl (in_turn n)
    where
      r : Replicas
      r = replicas_to image g port time frame vlan priority n

      by : (t : Bool) → names image port vlan n ≡ t → InTurn image port time frame vlan priority g n r.verdicts r.row
          → InTurn image port time frame vlan priority g (suc n) (replicas_to image g port time frame vlan priority (suc n)).verdicts
          (replicas_to image g port time frame vlan priority (suc n)).row
      by true e k =
          subst (λ (x : Replicas). InTurn image port time frame vlan priority g (suc n) x.verdicts x.row)
          (sym (to_more image g port time frame vlan priority n e))
          (yields k ((replica.is_named image port vlan n).0 e) (replica_first image r.row port time frame (vlan_egr image n) priority) refl)
      by false e k =
          subst (λ (x : Replicas). InTurn image port time frame vlan priority g (suc n) x.verdicts x.row)
          (sym (to_same image g port time frame vlan priority n e))
          (passes k (λ h. true≢false (sym ((replica.is_named image port vlan n).1 h) ∙ e)))

-- ---- the theorem

-- "A frame that gets past drop 6 on a VLAN and port named by an entry also yields a replica on the entry's egress VLAN": for every outcome that the promise
-- of a frame permits
pub replicas_in_turn : (buffer g : List ℕ) (port time : ℕ) (frame places : List ℕ) (r : Judgement) (after told : List ℕ)
    → Judges buffer g port time frame places r after told
    → Replicated buffer g port time frame places r.replicas after told
replicas_in_turn buffer g port time frame places r after told p =
    record {
      past =
          λ past.
          let c = called_past buffer g port time frame past places r after told p in (
            rs.verdicts,
            heard_over rs.verdicts places told r.replicas c.0 c.2,
            subst (InTurn i port time frame (vlan_of i port frame) (priority_of i port frame) h (count_of i Retagging) rs.verdicts) (sym c.1)
                (in_turn i h port time frame (vlan_of i port frame) (priority_of i port frame) (count_of i Retagging)),
          );
      stopped = λ stopped. called_alone buffer g port time frame (kept_out buffer g port time frame stopped) places r after told p;
    }
  where
    i : List ℕ
    i = image_in buffer

    h : List ℕ
    h = (judge_of buffer g port time frame).row

    rs : Replicas
    rs = replicas_in i h port time frame (vlan_of i port frame) (priority_of i port frame)

-- what the promise for C and Rust permits, the one for Rattle does
pub of_flat : (buffer g : List ℕ) (port time : ℕ) (frame places : List ℕ) (r : FlatJudged) (after told : List ℕ)
    → JudgesFlat buffer g port time frame places r after told
    → Judges buffer g port time frame places (answer_of (call_of buffer g port time frame)) after told
of_flat buffer g port time frame places r after told p = record { answer = refl; said = refl; row = p.row; laid = p.laid }

-- the same of the numbers that C and Rust get
pub replicas_in_turn_flat : (buffer g : List ℕ) (port time : ℕ) (frame places : List ℕ) (r : FlatJudged) (after told : List ℕ)
    → JudgesFlat buffer g port time frame places r after told
    → Replicated buffer g port time frame places r.replicas after told
replicas_in_turn_flat buffer g port time frame places r after told p =
    subst (λ (n : ℕ). Replicated buffer g port time frame places n after told) (sym (ap (λ (k : FlatJudged). k.replicas) p.answer))
    (replicas_in_turn buffer g port time frame places (answer_of (call_of buffer g port time frame)) after told
    (of_flat buffer g port time frame places r after told p))

-- ---- what pins the page, edited together with its tests

-- "runs steps 4 and 7 to 11"
pub six_steps : (image g : List ℕ) (port time : ℕ) (frame : List ℕ) (vlan priority : ℕ)
    → map (λ (c : Clause). c.number) (replica_page image g port time frame vlan priority) ≡ 4 ∷ 7 ∷ 8 ∷ 9 ∷ 10 ∷ 11 ∷ []
six_steps image g port time frame vlan priority = refl

-- each in the words of the frame's page, to which the frame's own VLAN brings it back
pub the_frames_steps : (buffer g : List ℕ) (port time : ℕ) (frame : List ℕ)
    → let page = replica_page (image_in buffer) g port time frame (vlan_of (image_in buffer) port frame) (priority_of (image_in buffer) port frame) in
    let whole = frame_page buffer g port time frame in
    (At 4 page ≡ At 4 whole)
    × (At 7 page ≡ At 7 whole)
    × (At 8 page ≡ At 8 whole)
    × (At 9 page ≡ At 9 whole)
    × (At 10 page ≡ At 10 whole)
    × (At 11 page ≡ At 11 whole)
the_frames_steps buffer g port time frame = (refl, refl, refl, refl, refl, refl)
