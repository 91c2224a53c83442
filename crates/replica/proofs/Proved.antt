-- What pins the replicas: as many as entries name the frame's VLAN and port, none where no entry does, and each on its entry's VLAN_EGR.
use Rattle.std.proofs.Common.{ℕ, zero, suc, ◌+◌, ◌<◌, ◌≤◌, zero-le, ◌≡◌, Bool, cond, not, List, [], ◌∷◌, eqb, ◌∙◌, true≢false, add-zero, arith, eqb-true}
use Rattle.std.proofs.Math.Path.{refl, sym, ap}
use Rattle.std.proofs.Math.Bool.{true, false}
use Rattle.std.proofs.Math.ListN.{length, length-append}
use Rattle.laws.specs.Scan.{total, flag}
use Rattle.fields.specs.Fields.{ing_port, vlan_ing, vlan_egr}
use Rattle.addresses.specs.Address.{holds}
use Rattle.frame.specs.Bytes.{octets_of}
use Rattle.settle.specs.Settle.{carried_out}
use Rattle.replica.specs.Replica.{names, replica_plan, Replicas, replicas, joined, replicas_to}
use Rattle.replica.proofs.ReplicaLaws.{to_more, to_same}

module _ (image g : List ℕ) (port time : ℕ) (frame : List ℕ) (vlan priority : ℕ) where
  pub as_many : (n : ℕ) → length (replicas_to image g port time frame vlan priority n).verdicts ≡ total n (λ i. flag (names image port vlan i))
  unfolding total replicas_to
  as_many zero = refl
  as_many (suc n) = by (names image port vlan n) refl (as_many n)
    where
      by : (t : Bool) → names image port vlan n ≡ t
          → length (replicas_to image g port time frame vlan priority n).verdicts ≡ total n (λ i. flag (names image port vlan i))
          → length (replicas_to image g port time frame vlan priority (suc n)).verdicts ≡ total n (λ i. flag (names image port vlan i)) + flag (names image port vlan n)
      by true e k =
          ap (λ (r : Replicas). length r.verdicts) (to_more image g port time frame vlan priority n e)
          ∙ length-append (replicas_to image g port time frame vlan priority n).verdicts (_ ∷ [])
          ∙ ap (λ (x : ℕ). x + 1) k
          ∙ ap (λ (t : Bool). total n (λ i. flag (names image port vlan i)) + flag t) (sym e)
      by false e k =
          ap (λ (r : Replicas). length r.verdicts) (to_same image g port time frame vlan priority n e)
          ∙ k
          ∙ sym (add-zero _)
          ∙ ap (λ (t : Bool). total n (λ i. flag (names image port vlan i)) + flag t) (sym e)

  -- so at most one for each entry
  pub one_each : (n : ℕ) → length (replicas_to image g port time frame vlan priority n).verdicts ≤ n
  unfolding replicas_to
  one_each zero = zero-le
  one_each (suc n) = by (names image port vlan n) refl (one_each n)
    where
      by : (t : Bool) → names image port vlan n ≡ t → length (replicas_to image g port time frame vlan priority n).verdicts ≤ n
          → length (replicas_to image g port time frame vlan priority (suc n)).verdicts ≤ suc n
      by true e k =
          let l =
          ap (λ (r : Replicas). length r.verdicts) (to_more image g port time frame vlan priority n e)
          ∙ length-append (replicas_to image g port time frame vlan priority n).verdicts (_ ∷ []) in
          omega (arith, l, k)
      by false e k = let l = ap (λ (r : Replicas). length r.verdicts) (to_same image g port time frame vlan priority n e) in omega (arith, l, k)

  pub none_named : (n : ℕ) → ((i : ℕ) → i < n → names image port vlan i ≡ false) → replicas_to image g port time frame vlan priority n ≡ replicas [] g
  unfolding replicas_to
  none_named zero h = refl
  none_named (suc n) h = to_same image g port time frame vlan priority n (h n (omega arith)) ∙ none_named n (λ i l. h i (omega arith))

-- an entry that names a frame's VLAN and port has both
pub named : (image : List ℕ) (port vlan i : ℕ) → names image port vlan i ≡ true → (vlan_ing image i ≡ vlan) × (holds (ing_port image i) port ≡ true)
named image port vlan i e = by (eqb (vlan_ing image i) vlan) refl e
  where
    by : (t : Bool) → eqb (vlan_ing image i) vlan ≡ t → cond (not t) false (holds (ing_port image i) port) ≡ true → (vlan_ing image i ≡ vlan) × (holds (ing_port image i) port ≡ true)
    by true q h = (eqb-true (vlan_ing image i) vlan q, h)
    by false q h = absurd (true≢false (sym h))

-- the replica of entry n, the first to name them, is judged on the entry's VLAN_EGR, on the row that was there
pub first_named : (image g : List ℕ) (port time : ℕ) (frame : List ℕ) (vlan priority n : ℕ) → ((i : ℕ) → i < n → names image port vlan i ≡ false) → names image port vlan n ≡ true
    → replicas_to image g port time frame vlan priority (suc n)
    ≡ joined image g port time frame vlan priority (replicas [] g) (carried_out g time (octets_of frame) (replica_plan image port frame (vlan_egr image n) priority))
first_named image g port time frame vlan priority n none e =
    to_more image g port time frame vlan priority n e
    ∙ ap (λ (r : Replicas). joined image g port time frame vlan priority r (carried_out r.row time (octets_of frame) (replica_plan image port frame (vlan_egr image n) priority)))
    (none_named image g port time frame vlan priority n none)
