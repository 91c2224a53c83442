-- What a plan tells: a drop is one of steps 1 to 8, and a course, a replica's too, is that of the frame's own policing entry.
use Rattle.std.specs.Prelude.{◌≡◌, refl, Bool, not, Option, Some, None, Ok, Err, List, ℕ, ◌≤◌, ltb, leb, eqb}
use Rattle.std.proofs.Common.{sym, ◌∙◌, ap, true≢false}
use Rattle.std.proofs.Math.Path.{subst}
use Rattle.std.proofs.Math.Bool.{true, false, cond}
use Rattle.std.proofs.Math.Dec.{lit≤}
use Rattle.image.specs.Layout.{count_of}
use Rattle.image.specs.declared.tables.Table.TheVariants.{Policing}
use Rattle.fields.specs.Fields.{port_vlanid, vlanprio, drpuntag, ingress, sharindx, maxlen, partition}
use Rattle.frame.specs.declared.Tag.{Tag}
use Rattle.frame.specs.Intake.{Intake, by_tag, intake_of}
use Rattle.frame.specs.Intake as intake
use Rattle.frame.specs.Bytes.{octets_of, destination_of, source_of, tag_of}
use Rattle.plan.specs.Enter.{Entered, by_place, by_intake, enter_of}
use Rattle.plan.specs.Enter as entered
use Rattle.plan.specs.Police.{Policed, by, policer_of, policed_of}
use Rattle.drops.specs.declared.Dropped.TheVariants.{NotPoliced, TooLong}
use Rattle.plan.specs.declared.Course.{Course}
use Rattle.plan.specs.Plan.{Planned, Dropped, Goes, course_of, by_policer, plan_of}
use Rattle.plan.specs.Steps.{placed_of, outsider, kept_out}
use Rattle.addresses.specs.Address.{barred}
use Rattle.replica.specs.Replica.{by_placed, replica_plan}
use Rattle.judge.specs.Judge.{by_entry, plan_for}
use Rattle.nights.specs.Policer.{Polices}

-- ---- a drop of a plan is one of steps 1 to 8
abbrev EarlyIntake : Intake → Type 0
EarlyIntake (intake.Dropped n) = n ≤ 8
EarlyIntake (intake.Taken vlan priority tagged) = Unit {0}

abbrev EarlyEntry : Entered → Type 0
EarlyEntry (entered.Dropped n) = n ≤ 8
EarlyEntry (entered.In vlan place priority) = Unit {0}

abbrev EarlyPlan : Planned → Type 0
EarlyPlan (Dropped n) = n ≤ 8
EarlyPlan (Goes w) = Unit {0}

module _ (image : List ℕ) (port : ℕ) (frame : List ℕ) where
  taken : EarlyIntake (intake_of image port frame)
  unfolding intake_of
  taken = one (ltb (octets_of frame) 64)
    where
      three : (t : Bool) → EarlyIntake (cond t (intake.Dropped 3) (intake.Taken (port_vlanid image port) (vlanprio image port) false))
      three true = lit≤ tt
      three false = tt

      tagged : (t : Option Tag) → EarlyIntake (by_tag image port t)
      tagged None = three (not (eqb (drpuntag image port) 0))
      tagged (Some t) = tt

      two : (t : Bool) → EarlyIntake (cond t (intake.Dropped 2) (by_tag image port (tag_of frame)))
      two true = lit≤ tt
      two false = tagged (tag_of frame)

      one : (t : Bool) → EarlyIntake (cond t (intake.Dropped 1) (cond (eqb (ingress image port) 0) (intake.Dropped 2) (by_tag image port (tag_of frame))))
      one true = lit≤ tt
      one false = two (eqb (ingress image port) 0)

  kept_out_lem : (vlan : ℕ) (tagged : Bool) (source place : ℕ) → kept_out image port vlan tagged source place ≤ 8
  unfolding kept_out
  kept_out_lem vlan tagged source place = five (outsider image port tagged place) (barred image port vlan source)
    where
      five : (s t : Bool) → cond s 5 (cond t 6 0) ≤ 8
      five true t = lit≤ tt
      five false true = lit≤ tt
      five false false = lit≤ tt

  entry : EarlyEntry (enter_of image port frame)
  unfolding enter_of
  entry = by_intake_lem (intake_of image port frame) taken
    where
      out : (vlan place priority n : ℕ) → n ≤ 8 → (t : Bool) → EarlyEntry (cond t (entered.In vlan place priority) (entered.Dropped n))
      out vlan place priority n h true = tt
      out vlan place priority n h false = h

      by_place_lem : (vlan priority : ℕ) (tagged : Bool) (q : Option ℕ) → EarlyEntry (by_place image port frame vlan priority tagged q)
      by_place_lem vlan priority tagged None = lit≤ tt
      by_place_lem vlan priority tagged (Some place) =
          out vlan place priority _ (kept_out_lem vlan tagged (source_of frame) place) (eqb (kept_out image port vlan tagged (source_of frame) place) 0)

      by_intake_lem : (q : Intake) → EarlyIntake q → EarlyEntry (by_intake image port frame q)
      by_intake_lem (intake.Dropped n) h = h
      by_intake_lem (intake.Taken vlan priority tagged) h = by_place_lem vlan priority tagged (placed_of image vlan)

  plan : EarlyPlan (plan_for image port frame)
  unfolding plan_for plan_of policed_of
  plan = by_entry_lem (enter_of image port frame) entry
    where
      police : (vlan place priority k m : ℕ) (s t u : Bool)
          → EarlyPlan
          (by_policer image port (destination_of frame) vlan place priority
          (cond s (Err NotPoliced) (cond t (Err NotPoliced) (cond u (Err TooLong) (Ok (by k m))))))
      police vlan place priority k m true t u = lit≤ tt
      police vlan place priority k m false true u = lit≤ tt
      police vlan place priority k m false false true = lit≤ tt
      police vlan place priority k m false false false = tt

      by_entry_lem : (q : Entered) → EarlyEntry q → EarlyPlan (by_entry image port frame q)
      by_entry_lem (entered.Dropped n) h = h
      by_entry_lem (entered.In vlan place priority) h =
          let k : ℕ = policer_of port priority (destination_of frame) in
          police vlan place priority k (sharindx image k) (leb (count_of image Policing) k) (leb (count_of image Policing) (sharindx image k))
          (ltb (maxlen image k) (octets_of frame))

  -- what a plan drops a frame with
  pub plan_drops : (n : ℕ) → plan_for image port frame ≡ Dropped n → n ≤ 8
  plan_drops n e = subst EarlyPlan e plan

-- ---- a course is that of the frame's own policing entry

-- entry k polices a course: its meter is the one that SHARINDX names, its partition PARTITION
abbrev ByEntry : List ℕ → ℕ → Planned → Type 0
ByEntry image k (Dropped n) = Unit {0}
ByEntry image k (Goes w) = (w.meter ≡ sharindx image k) × (w.partition ≡ partition image k)

-- whatever VLAN and place it is made on
plan_by : (image : List ℕ) (port : ℕ) (frame : List ℕ) (vlan place priority : ℕ)
    → ByEntry image (policer_of port priority (destination_of frame)) (plan_of image port frame vlan place priority)
unfolding plan_of policed_of course_of
plan_by image port frame vlan place priority =
    police (leb (count_of image Policing) k) (leb (count_of image Policing) (sharindx image k)) (ltb (maxlen image k) (octets_of frame))
  where
    k : ℕ
    k = policer_of port priority (destination_of frame)

    police : (s t u : Bool)
        → ByEntry image (policer_of port priority (destination_of frame))
        (by_policer image port (destination_of frame) vlan place priority
        (cond s (Err NotPoliced)
        (cond t (Err NotPoliced)
        (cond u (Err TooLong) (Ok (by (policer_of port priority (destination_of frame)) (sharindx image (policer_of port priority (destination_of frame)))))))))
    police true t u = tt
    police false true u = tt
    police false false true = tt
    police false false false = (refl, refl)

abbrev OfEntry : List ℕ → ℕ → List ℕ → Planned → Type 0
OfEntry image port frame (Dropped n) = Unit {0}
OfEntry image port frame (Goes w) = (k : ℕ) × Polices image port frame k × (w.meter ≡ sharindx image k) × (w.partition ≡ partition image k)

-- a course has the meter that SHARINDX of entry k names, and PARTITION of entry k
pub goes_by : (image : List ℕ) (port : ℕ) (frame : List ℕ) (w : Course) → plan_for image port frame ≡ Goes w
    → (k : ℕ) × Polices image port frame k × (w.meter ≡ sharindx image k) × (w.partition ≡ partition image k)
unfolding plan_for
goes_by image port frame w e = subst (OfEntry image port frame) e (go (enter_of image port frame) refl)
  where
    with_entry : (vlan place priority : ℕ) → enter_of image port frame ≡ entered.In vlan place priority → (p : Planned)
        → ByEntry image (policer_of port priority (destination_of frame)) p
        → OfEntry image port frame p
    with_entry vlan place priority q (Dropped n) b = tt
    with_entry vlan place priority q (Goes x) b = (
      policer_of port priority (destination_of frame),
      record { vlan = vlan; place = place; priority = priority; entered = q; is = refl },
      b.0,
      b.1,
    )

    go : (q : Entered) → enter_of image port frame ≡ q → OfEntry image port frame (by_entry image port frame q)
    go (entered.Dropped n) q = tt
    go (entered.In vlan place priority) q =
        with_entry vlan place priority q (plan_of image port frame vlan place priority) (plan_by image port frame vlan place priority)

-- ---- and so is a replica's

module _ (image : List ℕ) (port : ℕ) (frame : List ℕ) (vlan priority : ℕ) where
  pub replica_by : (w : Course) → replica_plan image port frame vlan priority ≡ Goes w
      → (w.meter ≡ sharindx image (policer_of port priority (destination_of frame)))
      × (w.partition ≡ partition image (policer_of port priority (destination_of frame)))
  unfolding replica_plan
  replica_by w e = subst (ByEntry image (policer_of port priority (destination_of frame))) e (go (placed_of image vlan))
    where
      go : (p : Option ℕ) → ByEntry image (policer_of port priority (destination_of frame)) (by_placed image port frame vlan priority p)
      go None = tt
      go (Some place) = plan_by image port frame vlan place priority

-- ---- where a frame is dropped at 7 or 8 so is each replica, or at 4

abbrev is_goes : Planned → Bool
is_goes (Dropped n) = false
is_goes (Goes w) = true

same_police : (image : List ℕ) (port : ℕ) (frame : List ℕ) (priority vlan place other at : ℕ)
    → is_goes (plan_of image port frame vlan place priority) ≡ is_goes (plan_of image port frame other at priority)
unfolding plan_of
same_police image port frame priority vlan place other at = go (policed_of image port priority (destination_of frame) (octets_of frame))
  where
    go : (q : Policed) → is_goes (by_policer image port (destination_of frame) vlan place priority q) ≡ is_goes (by_policer image port (destination_of frame) other at priority q)
    go (Err d) = refl
    go (Ok p) = refl

pub dropped_alike : (image : List ℕ) (port : ℕ) (frame : List ℕ) (vlan place priority other n : ℕ) (w : Course)
    → enter_of image port frame ≡ entered.In vlan place priority
    → plan_for image port frame ≡ Dropped n
    → replica_plan image port frame other priority ≡ Goes w
    → ⊥
unfolding plan_for replica_plan
dropped_alike image port frame vlan place priority other n w i d e = go (placed_of image other) e
  where
    own : plan_of image port frame vlan place priority ≡ Dropped n
    own = ap (by_entry image port frame) (sym i) ∙ d

    go : (p : Option ℕ) → by_placed image port frame other priority p ≡ Goes w → ⊥
    go None q = true≢false (ap is_goes (sym q))
    go (Some at) q = true≢false (ap is_goes (sym q) ∙ sym (same_police image port frame priority vlan place other at) ∙ ap is_goes own)
