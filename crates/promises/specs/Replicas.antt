-- Document 02, request 2. "A frame that gets past drop 6 on a VLAN and port named by an entry also yields a replica on the entry's egress VLAN. The replica
-- keeps its source port and runs steps 4 and 7 to 11 with its own verdict, right after the original's." What refusals, tiles, units, meters, 39 and two
-- equal images say of replicas stands with the demands.
use Rattle.std.specs.Prelude.{◌≡◌, List, map, ℕ, ◌<◌, ◌≤◌}
use Rattle.laws.specs.Scan.{total, flag}
use Rattle.image.specs.Layout.{image_in, count_of}
use Rattle.image.specs.declared.tables.Table.TheVariants.{Retagging}
use Rattle.fields.specs.Fields.{vlan_egr}
use Rattle.settle.specs.declared.Verdict.{Verdict}
use Rattle.places.specs.Places.{ten_of, heard}
use Rattle.replica.specs.Replica.{names}
use Rattle.judge.specs.declared.Judgement.{Judgement}
use Rattle.judge.specs.Judge.{judge_of, Judges}
use Rattle.judge.proofs.Proved as judge
use Rattle.flat_answers.specs.Answers.{flat_verdict}
use Rattle.flat_frames.specs.declared.FlatJudged.{FlatJudged}
use Rattle.flat_frames.specs.Frames.{JudgesFlat}
use Rattle.flat_frames.specs.FramesLaws as frames
use Rattle.exactly.specs.First.{Some, NoneBefore}
use Rattle.exactly.specs.Steps.{vlan_of, frame_page}
use Rattle.exactly.specs.Replicas.{Names, Replicated}
use Rattle.exactly.proofs.ReplicasProved as turn
use Rattle.exactly.specs.Matching.{Each, AsAFrame}
use Rattle.exactly.proofs.MatchingProved as matching

-- a replica's page, entry after entry of 12: each verdict is the first of 4, 7, 8, 9, 10, 11 that applies, on the row that the one before left; a frame
-- that a refusal or one of drops 1 to 6 stops has none
pub replicas_in_turn : (buffer g : List ℕ) (port time : ℕ) (frame places : List ℕ) (r : Judgement) (after told : List ℕ)
    → Judges buffer g port time frame places r after told
    → Replicated buffer g port time frame places r.replicas after told
replicas_in_turn = turn.replicas_in_turn

-- without a matching entry there is no replica, and verdict and ledger are those of the frame by itself
pub no_match_no_replica : (buffer g : List ℕ) (port time : ℕ) (frame places : List ℕ) (r : Judgement) (after told : List ℕ)
    → Judges buffer g port time frame places r after told
    → ((i : ℕ) → i < count_of (image_in buffer) Retagging → Names (image_in buffer) port (vlan_of (image_in buffer) port frame) i → ⊥)
    → (r.replicas ≡ 0)
    × (r.verdict ≡ (judge_of buffer g port time frame).verdict)
    × (after ≡ (judge_of buffer g port time frame).row)
    × (told ≡ places)
no_match_no_replica = matching.no_match_no_replica

-- there are as many replicas as matching entries
pub as_many_as_match : (buffer g : List ℕ) (port time : ℕ) (frame places : List ℕ) (r : Judgement) (after told : List ℕ)
    → Judges buffer g port time frame places r after told
    → NoneBefore 7 (frame_page buffer g port time frame)
    → r.replicas ≡ total (count_of (image_in buffer) Retagging) (λ i. flag (names (image_in buffer) port (vlan_of (image_in buffer) port frame) i))
as_many_as_match = matching.as_many_as_match

-- and never more than there are places
pub few_replicas : (buffer g : List ℕ) (port time : ℕ) (frame places : List ℕ) (r : Judgement) (after told : List ℕ)
    → Judges buffer g port time frame places r after told
    → r.replicas ≤ 32
few_replicas = judge.few_replicas

-- a sent replica's ports, tags and queues are those of a frame on that VLAN
pub as_a_frame_on_that_vlan : (buffer g : List ℕ) (port time : ℕ) (frame places : List ℕ) (r : Judgement) (after told : List ℕ)
    → Judges buffer g port time frame places r after told
    → NoneBefore 7 (frame_page buffer g port time frame)
    → (vs : List Verdict)
    × (heard r.replicas told ≡ map ten_of vs)
    × Each
    (λ v. Some (count_of (image_in buffer) Retagging)
    (λ i. Names (image_in buffer) port (vlan_of (image_in buffer) port frame) i × AsAFrame buffer port frame (vlan_egr (image_in buffer) i) v)) vs
as_a_frame_on_that_vlan = matching.as_a_frame_on_that_vlan

-- ---- for C and Rust

pub replicas_in_turn_flat : (buffer g : List ℕ) (port time : ℕ) (frame places : List ℕ) (r : FlatJudged) (after told : List ℕ)
    → JudgesFlat buffer g port time frame places r after told
    → Replicated buffer g port time frame places r.replicas after told
replicas_in_turn_flat = turn.replicas_in_turn_flat

pub no_match_no_replica_flat : (buffer g : List ℕ) (port time : ℕ) (frame places : List ℕ) (r : FlatJudged) (after told : List ℕ)
    → JudgesFlat buffer g port time frame places r after told
    → ((i : ℕ) → i < count_of (image_in buffer) Retagging → Names (image_in buffer) port (vlan_of (image_in buffer) port frame) i → ⊥)
    → (r.replicas ≡ 0)
    × (r.verdict ≡ flat_verdict (judge_of buffer g port time frame).verdict)
    × (after ≡ (judge_of buffer g port time frame).row)
    × (told ≡ places)
no_match_no_replica_flat = matching.no_match_no_replica_flat

pub as_many_as_match_flat : (buffer g : List ℕ) (port time : ℕ) (frame places : List ℕ) (r : FlatJudged) (after told : List ℕ)
    → JudgesFlat buffer g port time frame places r after told
    → NoneBefore 7 (frame_page buffer g port time frame)
    → r.replicas ≡ total (count_of (image_in buffer) Retagging) (λ i. flag (names (image_in buffer) port (vlan_of (image_in buffer) port frame) i))
as_many_as_match_flat = matching.as_many_as_match_flat

pub few_replicas_flat : (buffer g : List ℕ) (port time : ℕ) (frame places : List ℕ) (r : FlatJudged) (after told : List ℕ)
    → JudgesFlat buffer g port time frame places r after told
    → r.replicas ≤ 32
few_replicas_flat = frames.few_replicas
