-- A frame's replicas (document 02, request 2): one for each entry of 12 that names its VLAN and port, each on the entry's VLAN_EGR.
use Rattle.std.specs.Prelude.{◌≡◌, Bool, false, cond, not, Option, Some, None, List, [], ◌∷◌, ◌++◌, ℕ, zero, suc, eqb, length}
use Rattle.image.specs.Layout.{count_of}
use Rattle.image.specs.declared.tables.Table.TheVariants.{Retagging}
use Rattle.fields.specs.Fields.{ing_port, vlan_ing, vlan_egr}
use Rattle.addresses.specs.Address.{holds}
use Rattle.frame.specs.Bytes.{octets_of}
use Rattle.plan.specs.declared.enter.Entrant.{Entrant}
use Rattle.plan.specs.Enter.{Entered}
use Rattle.plan.specs.Enter as entered
use Rattle.plan.specs.Steps.{placed_of}
use Rattle.plan.specs.Plan.{Planned, Dropped, by_policer, plan_of}
use Rattle.plan.specs.Police.{Policed}
use Rattle.settle.specs.declared.Verdict.{Verdict}
use Rattle.settle.specs.Settle.{Judged, carried_out}
use Rattle.places.specs.Places.{laid_over}

-- "on a VLAN and port named by an entry": entry i's VLAN_ING is the VLAN, and its ING_PORT has the port
abbrev pub names : List ℕ → ℕ → ℕ → ℕ → Bool
names image port vlan i = cond (not (eqb (vlan_ing image i) vlan)) false (holds (ing_port image i) port)

-- a plan on a VLAN by what 7 and 8 answered, which ask no VLAN: 4 first
abbrev pub by_policed : List ℕ → ℕ → ℕ → ℕ → ℕ → Policed → Option ℕ → Planned
by_policed image port destination vlan priority policed None = Dropped 4
by_policed image port destination vlan priority policed (Some place) = by_policer image port destination vlan place priority policed

unfoldable pub planned_by : List ℕ → ℕ → ℕ → ℕ → ℕ → Policed → Planned
planned_by image port destination vlan priority policed = by_policed image port destination vlan priority policed (placed_of image vlan)

-- "runs steps 4 and 7 to 11": 4 by its answer, then the plan that a frame on this VLAN has
abbrev pub by_placed : List ℕ → ℕ → List ℕ → ℕ → ℕ → Option ℕ → Planned
by_placed image port frame vlan priority None = Dropped 4
by_placed image port frame vlan priority (Some place) = plan_of image port frame vlan place priority

-- "keeps its source port", "keeps the frame's priority", "on the entry's egress VLAN"
unfoldable pub replica_plan : List ℕ → ℕ → List ℕ → ℕ → ℕ → Planned
replica_plan image port frame vlan priority = by_placed image port frame vlan priority (placed_of image vlan)

-- replicas' verdicts in order, and the row that the last one left
pub record Replicas : Type 0 where
  pub verdicts : List Verdict
  pub row : List ℕ

abbrev pub replicas : List Verdict → List ℕ → Replicas
replicas vs g = record { verdicts = vs; row = g }

module _ (image g : List ℕ) (port time : ℕ) (frame : List ℕ) (vlan priority : ℕ) where
  -- a replica "with its own verdict", on a row: what its plan comes to and spends. Nothing is noted of it: "tiles count originals only"
  abbrev pub replica_on : List ℕ → ℕ → Judged
  replica_on h egress = carried_out h time (octets_of frame) (replica_plan image port frame egress priority)

  -- behind those before it, on the row that they left
  abbrev pub joined : Replicas → Judged → Replicas
  joined r j = replicas (r.verdicts ++ (j.verdict ∷ [])) j.row

  -- "several matching entries act in table order": what the first n entries yield
  unfoldable pub replicas_to : ℕ → Replicas
  replicas_to zero = replicas [] g
  replicas_to (suc n) = cond (names image port vlan n) (joined (replicas_to n) (replica_on (replicas_to n).row (vlan_egr image n))) (replicas_to n)

  abbrev pub replicas_in : Replicas
  replicas_in = replicas_to (count_of image Retagging)

-- "a frame that gets past drop 6", by what steps 1 to 6 answer
abbrev pub replicas_of : List ℕ → List ℕ → ℕ → ℕ → List ℕ → Entered → Replicas
replicas_of image g port time frame (entered.Dropped n) = replicas [] g
replicas_of image g port time frame (entered.In vlan place priority) = replicas_in image g port time frame vlan priority

-- of a frame that steps 1 to 6 let in, or did not
abbrev pub replicas_for : List ℕ → List ℕ → ℕ → ℕ → List ℕ → Option Entrant → Replicas
replicas_for image g port time frame None = replicas [] g
replicas_for image g port time frame (Some e) = replicas_in image g port time frame e.vlan e.priority

-- what is left of a row and of lent places, and how many replicas are told
pub record Replicates (r : Replicas) (before : List ℕ) (count : ℕ) (row after : List ℕ) : Type 0 where
  pub many : count ≡ length r.verdicts
  pub left : row ≡ r.row
  pub laid : after ≡ laid_over r.verdicts before
