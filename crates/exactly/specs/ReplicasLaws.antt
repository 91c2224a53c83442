-- Each clause of a replica's page is decided by its test, and steps 4 and 7 to 11 ask theirs in the page's order.
use Rattle.std.specs.Prelude.{◌≡◌, Bool, cond, Some, None, Ok, Err, List, ℕ, ◌-◌, ◌*◌, leb}
use Rattle.std.proofs.Math.Path.{refl, ap}
use Rattle.std.proofs.Math.Bool.{true, false}
use Rattle.image.specs.Layout.{count_of}
use Rattle.image.specs.declared.tables.Table.TheVariants.{Policing}
use Rattle.fields.specs.Fields.{maxlen, partition, vlan_ing}
use Rattle.lookup.specs.Vlan.{vlan_at}
use Rattle.broken.specs.Broken.{no_vlan}
use Rattle.ledger.specs.Row.{units, cell}
use Rattle.frame.specs.Bytes.{octets_of, destination_of}
use Rattle.plan.specs.Steps.{placed_of}
use Rattle.drops.specs.declared.Dropped.TheVariants.{NotPoliced, TooLong}
use Rattle.plan.specs.declared.Course.{Course}
use Rattle.plan.specs.Police.{by, policed_of}
use Rattle.plan.specs.Plan.{course_of, by_policer, plan_of}
use Rattle.spend.specs.Spend.{spent, paid_of, spent_of}
use Rattle.ports.specs.Ports.{sending_at, sending_of}
use Rattle.settle.specs.Settle.{settled_of, carried_out}
use Rattle.settle.specs.After.{spent_at}
use Rattle.replica.specs.Replica.{names, by_placed, replica_plan}
use Rattle.exactly.specs.Decides.{Decides, Decided, first_of}
use Rattle.exactly.specs.DecidesLaws.{also, by_lt, by_le, by_eq, by_none, by_or, by_when}
use Rattle.exactly.specs.RulesProved.{is_no_vlan}
use Rattle.exactly.specs.OnVlan.{policer_at, meter_at, credit_at, ports_on}
use Rattle.exactly.specs.Replicas.{replica_page, replica_verdict_by, Names}
use Rattle.exactly.specs.StepTests.{not_policed, too_long, meter_short, no_port, no_unit, replica_tests}

-- an entry's test
pub is_named : (image : List ℕ) (port vlan i : ℕ) → Decides (names image port vlan i) (Names image port vlan i)
is_named image port vlan i = by_when _ _ (by_eq (vlan_ing image i) vlan) (by_eq _ 1)

module _ (image g : List ℕ) (port time : ℕ) (frame : List ℕ) (vlan priority : ℕ) where
  abbrev k : ℕ
  k = policer_at port frame priority

  -- each clause of the page has its test
  pub decided : Decided (replica_page image g port time frame vlan priority) (replica_tests image g port time frame vlan priority)
  decided =
      also (is_no_vlan image vlan)
      (also (by_or _ _ (by_le (count_of image Policing) k) (by_le (count_of image Policing) (meter_at image port frame priority)))
      (also (by_lt (maxlen image k) (octets_of frame))
      (also (by_lt (credit_at image port frame priority g time) (octets_of frame * 8000000))
      (also (by_eq (ports_on image port frame vlan) 0) (also (by_none (cell g units (partition image k))) tt)))))

  -- ---- 7 to 11

  abbrev course : Course
  course = course_of image port (destination_of frame) vlan (vlan_at image vlan) priority k (meter_at image port frame priority)

  abbrev late : Bool → Bool → Bool → ℕ
  late a b c = cond a 9 (cond b 10 (cond c 11 0))

  late_is : (spent_at g course time (octets_of frame)).drop
      ≡ late (meter_short image port frame g time priority) (no_port image port frame vlan) (no_unit image port frame g priority)
  unfolding course_of sending_of sending_at spent_of paid_of
  late_is = go (meter_short image port frame g time priority) (no_port image port frame vlan) (no_unit image port frame g priority) _ _ _
    where
      go : (a b c : Bool) (full rest left : ℕ)
          → (cond a (spent 9 full time left) (cond b (spent 10 rest time left) (cond c (spent 11 rest time left) (spent 0 rest time (left - 1))))).drop ≡ late a b c
      go true b c full rest left = refl
      go false true c full rest left = refl
      go false false true full rest left = refl
      go false false false full rest left = refl

  -- a plan on this VLAN with this priority comes to the first of 7 to 11 whose test holds
  pub onward_is : (carried_out g time (octets_of frame) (plan_of image port frame vlan (vlan_at image vlan) priority)).verdict
      ≡ replica_verdict_by image port frame vlan priority
      (cond (not_policed image port frame priority) 7
      (cond (too_long image port frame priority) 8
      (cond (meter_short image port frame g time priority) 9 (cond (no_port image port frame vlan) 10 (cond (no_unit image port frame g priority) 11 0)))))
  unfolding plan_of policed_of course_of settled_of
  onward_is = go (leb (count_of image Policing) k) (leb (count_of image Policing) (meter_at image port frame priority)) (too_long image port frame priority) _ late_is
    where
      go : (a b c : Bool) (n : ℕ) → (spent_at g course time (octets_of frame)).drop ≡ n
          → (carried_out g time (octets_of frame)
          (by_policer image port (destination_of frame) vlan (vlan_at image vlan) priority
          (cond a (Err NotPoliced) (cond b (Err NotPoliced) (cond c (Err TooLong) (Ok (by k (meter_at image port frame priority)))))))).verdict
          ≡ replica_verdict_by image port frame vlan priority (cond (cond a true b) 7 (cond c 8 n))
      go true b c n e = refl
      go false true c n e = refl
      go false false true n e = refl
      go false false false n e = ap (replica_verdict_by image port frame vlan priority) e

  -- ---- a replica's

  -- its verdict is the number's that the tests come to
  pub replica_is : (carried_out g time (octets_of frame) (replica_plan image port frame vlan priority)).verdict
      ≡ replica_verdict_by image port frame vlan priority (first_of (replica_page image g port time frame vlan priority) (replica_tests image g port time frame vlan priority) 0)
  unfolding replica_plan placed_of
  replica_is = go (no_vlan image vlan) _ onward_is
    where
      go : (t : Bool) (n : ℕ)
          → (carried_out g time (octets_of frame) (plan_of image port frame vlan (vlan_at image vlan) priority)).verdict ≡ replica_verdict_by image port frame vlan priority n
          → (carried_out g time (octets_of frame) (by_placed image port frame vlan priority (cond t None (Some (vlan_at image vlan))))).verdict
          ≡ replica_verdict_by image port frame vlan priority (cond t 4 n)
      go true n e = refl
      go false n e = e
