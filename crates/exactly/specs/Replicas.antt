-- A replica's page (document 02, request 2): its six clauses as one literal list in the paper's order, and the verdict by the first; and a frame's
-- replicas in turn, entry after entry of 12.
use Rattle.std.specs.Prelude.{◌≡◌, cond, List, [], ◌∷◌, ◌++◌, map, ℕ, suc, ◌<◌, eqb}
use Rattle.image.specs.Layout.{image_in, count_of}
use Rattle.image.specs.declared.tables.Table.TheVariants.{Retagging}
use Rattle.fields.specs.Fields.{maxlen, partition, ing_port, vlan_ing, vlan_egr}
use Rattle.ledger.specs.Row.{units, cell}
use Rattle.frame.specs.Bytes.{octets_of}
use Rattle.settle.specs.declared.Verdict.{Verdict}
use Rattle.settle.specs.declared.Verdict.TheVariants.{Drop, Sent}
use Rattle.places.specs.Places.{ten_of, heard}
use Rattle.replica.specs.Replica.{replica_on}
use Rattle.judge.specs.Judge.{judge_of}
use Rattle.exactly.specs.First.{Clause, clause, First, NoneBefore, Exactly}
use Rattle.exactly.specs.Rules.{NoVlan}
use Rattle.exactly.specs.OnVlan.{policer_at, NotPoliced, MeterShort, ports_on, sending_on}
use Rattle.exactly.specs.Steps.{In, vlan_of, priority_of, frame_page}

-- ---- the page

-- "runs steps 4 and 7 to 11 with its own verdict": "the replica keeps its source port", "it keeps the frame's priority", and it is "on the entry's
-- egress VLAN"
abbrev pub replica_page : List ℕ → List ℕ → ℕ → ℕ → List ℕ → ℕ → ℕ → List Clause
replica_page image g port time frame vlan priority =
    clause 4 (NoVlan image vlan)
    ∷ clause 7 (NotPoliced image port frame priority)
    ∷ clause 8 (maxlen image (policer_at port frame priority) < octets_of frame)
    ∷ clause 9 (MeterShort image port frame priority g time)
    ∷ clause 10 (ports_on image port frame vlan ≡ 0)
    ∷ clause 11 (cell g units (partition image (policer_at port frame priority)) ≡ 0)
    ∷ []

-- the verdict of a number: 0 is sent, the others are drops; a replica is not refused
abbrev pub replica_verdict_by : List ℕ → ℕ → List ℕ → ℕ → ℕ → ℕ → Verdict
replica_verdict_by image port frame vlan priority n = cond (eqb n 0) (Sent (sending_on image port frame vlan priority)) (Drop n)

-- ---- in turn

-- "on a VLAN and port named by an entry": entry i's VLAN_ING is the VLAN, and the port is in its ING_PORT
abbrev pub Names : List ℕ → ℕ → ℕ → ℕ → Type 0
Names image port vlan i = (vlan_ing image i ≡ vlan) × In (ing_port image i) port

-- "several matching entries act in table order": the verdicts that the first entries yield and the row that the last replica leaves, from a row g on.
-- An entry that names the frame's VLAN and port yields a replica on its VLAN_EGR, judged on the row that those before it left; another yields none
pub data InTurn (image : List ℕ) (port time : ℕ) (frame : List ℕ) (vlan priority : ℕ) (g : List ℕ) : ℕ → List Verdict → List ℕ → Type 0 where
  none : InTurn image port time frame vlan priority g 0 [] g
  yields : {i : ℕ} {vs : List Verdict} {h k : List ℕ} {v : Verdict} → InTurn image port time frame vlan priority g i vs h → Names image port vlan i
      → Exactly Verdict (First (replica_page image h port time frame (vlan_egr image i) priority)) (replica_verdict_by image port frame (vlan_egr image i) priority) v
      → k ≡ (replica_on image g port time frame vlan priority h (vlan_egr image i)).row
      → InTurn image port time frame vlan priority g (suc i) (vs ++ (v ∷ [])) k
  passes : {i : ℕ} {vs : List Verdict} {h : List ℕ} → InTurn image port time frame vlan priority g i vs h → (Names image port vlan i → ⊥)
      → InTurn image port time frame vlan priority g (suc i) vs h

-- what a frame's call says of n replicas, and what it leaves of row and places
pub record Replicated (buffer g : List ℕ) (port time : ℕ) (frame places : List ℕ) (n : ℕ) (after told : List ℕ) : Type 0 where
  -- "a frame that gets past drop 6": the first n places hold the verdicts of its replicas, "right after the original's"
  pub past : NoneBefore 7 (frame_page buffer g port time frame)
      → (vs : List Verdict)
      × (heard n told ≡ map ten_of vs)
      × InTurn (image_in buffer) port time frame (vlan_of (image_in buffer) port frame) (priority_of (image_in buffer) port frame)
      (judge_of buffer g port time frame).row (count_of (image_in buffer) Retagging) vs after
  -- another has none, and nothing more is done
  pub stopped : (NoneBefore 7 (frame_page buffer g port time frame) → ⊥) → (n ≡ 0) × (after ≡ (judge_of buffer g port time frame).row) × (told ≡ places)
