-- What holds of no replica and is kept by each holds of all of them: by cases, as a frame's. Whoever needs to know what replicas leave cites this law.
use Rattle.std.proofs.Common.{ℕ, zero, suc, ◌≡◌, Bool, true, false, List, [], ◌∷◌, ◌++◌, sym, subst}
use Rattle.std.proofs.Math.Path.{refl}
use Rattle.image.specs.Layout.{count_of}
use Rattle.image.specs.declared.tables.Table.TheVariants.{Retagging}
use Rattle.fields.specs.Fields.{vlan_egr}
use Rattle.frame.specs.Bytes.{octets_of}
use Rattle.plan.specs.Enter.{Entered}
use Rattle.plan.specs.Enter as entered
use Rattle.settle.specs.declared.Verdict.{Verdict}
use Rattle.settle.specs.Settle.{Judged}
use Rattle.settle.specs.Carried.{carried_by_cases}
use Rattle.replica.specs.Replica.{names, replica_plan, Replicas, replicas_to, replicas_of}
use Rattle.replica.specs.Keeps.{Keeps}
use Rattle.replica.proofs.ReplicaLaws.{replica_follows, to_more, to_same}

module _ (image g : List ℕ) (port time : ℕ) (frame : List ℕ) (P : List Verdict → List ℕ → Type 0) where
  module _ (vlan priority : ℕ) (none : P [] g) (keeps : Keeps image port time frame P priority) where
    to : (n : ℕ) → P (replicas_to image g port time frame vlan priority n).verdicts (replicas_to image g port time frame vlan priority n).row
    unfolding replicas_to
    to zero = none
    to (suc n) = by (names image port vlan n) refl (to n)
      where
        r : Replicas
        r = replicas_to image g port time frame vlan priority n

        by : (t : Bool) → names image port vlan n ≡ t → P r.verdicts r.row
            → P (replicas_to image g port time frame vlan priority (suc n)).verdicts (replicas_to image g port time frame vlan priority (suc n)).row
        by true e k =
            subst (λ (x : Replicas). P x.verdicts x.row) (sym (to_more image g port time frame vlan priority n e))
            (carried_by_cases image r.row time (octets_of frame) (λ (j : Judged). P (r.verdicts ++ (j.verdict ∷ [])) j.row) (replica_plan image port frame (vlan_egr image n) priority)
            (replica_follows image port frame (vlan_egr image n) priority)
            (λ m q. keeps.early r.verdicts r.row (vlan_egr image n) m q k)
            (λ w q f z. keeps.dropped r.verdicts r.row (vlan_egr image n) w q f z k)
            (λ w q f z. keeps.sent r.verdicts r.row (vlan_egr image n) w q f z k))
        by false e k = subst (λ (x : Replicas). P x.verdicts x.row) (sym (to_same image g port time frame vlan priority n e)) k

  pub replicas_keep : (q : Entered) → P [] g → ((vlan place priority : ℕ) → q ≡ entered.In vlan place priority → Keeps image port time frame P priority)
      → P (replicas_of image g port time frame q).verdicts (replicas_of image g port time frame q).row
  replicas_keep (entered.Dropped n) none keeps = none
  replicas_keep (entered.In vlan place priority) none keeps = to vlan priority none (keeps vlan place priority refl) (count_of image Retagging)
