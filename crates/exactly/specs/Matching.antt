-- Where a replica goes (document 02, request 2), said of the verdicts of both calls: as a frame on its VLAN does.
use Rattle.std.specs.Prelude.{◌≡◌, List, [], ◌∷◌, ℕ}
use Rattle.image.specs.Layout.{image_in}
use Rattle.frame.specs.Bytes.{destination_of}
use Rattle.ports.specs.declared.Sending.{Sending}
use Rattle.settle.specs.declared.Verdict.{Verdict}
use Rattle.settle.specs.declared.Verdict.TheVariants.{Sent}
use Rattle.judge.specs.declared.Judgement.{Judgement}
use Rattle.judge.specs.Judge.{Judges}
use Rattle.exactly.specs.Steps.{vlan_of, priority_of}

-- P holds of every verdict
abbrev pub Each : (Verdict → Type 0) → List Verdict → Type 0
Each P [] = Unit {0}
Each P (v ∷ vs) = P v × Each P vs

-- the verdict v of this frame's replica on a VLAN: where it is sent, it is sent with the ports, tags and queues of every frame with this destination and
-- this priority that came in at this port on that VLAN and is sent, on whatever ledger and at whatever time
abbrev pub AsAFrame : List ℕ → ℕ → List ℕ → ℕ → Verdict → Type 0
AsAFrame buffer port frame vlan v =
    (s t : Sending) → v ≡ Sent s → (g : List ℕ) (time : ℕ) (other places : List ℕ) (r : Judgement) (after told : List ℕ)
    → Judges buffer g port time other places r after told
    → destination_of other ≡ destination_of frame
    → vlan_of (image_in buffer) port other ≡ vlan
    → priority_of (image_in buffer) port other ≡ priority_of (image_in buffer) port frame
    → r.verdict ≡ Sent t
    → s ≡ t
