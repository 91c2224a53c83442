-- Each clause of a frame's page is decided by its test, and steps 1 to 6 ask theirs in the page's order.
use Rattle.std.specs.Prelude.{◌≡◌, refl, Bool, true, false, cond, not, Some, None, List, ltb, eqb, length}
use Rattle.std.proofs.Common.{sym, subst, inl, inr, ⊎_elim, lt_irrefl, lt_of_lt_of_le, ltb-true, ltb-false}
use Prim.Native.Nat.{ℕ, ◌*◌, ◌/◌, ◌%◌, ◌^◌, ◌<◌}
use Rattle.image.specs.Rows.{index_of, table_count, row_at, most_of}
use Rattle.image.specs.RowLaws.{placed}
use Rattle.image.specs.Layout.{image_in, count_of}
use Rattle.image.specs.Loaded.{above, over_limit, too_short, not_loaded}
use Rattle.image.specs.declared.tables.Table.{Table}
use Rattle.image.specs.declared.tables.Table.TheVariants.{AddressLookup, Policing}
use Rattle.fields.specs.Fields.{address_vlanid, macaddr, destports, enfport, shared_learn, smax, vmemb_port, vlanprio, port_vlanid, drpuntag, ingress, part_spc}
use Rattle.lookup.specs.Vlan.{vlan_at}
use Rattle.addresses.specs.Address.{barred}
use Rattle.broken.specs.Broken.{no_vlan}
use Rattle.ledger.specs.Row.{units, credit, since, frames, drops, octets, dropped, last, cell}
use Rattle.ledger.specs.Range.{latest, full_of, octets_off, counts_off, out_of_range, unloaded, standing}
use Rattle.frame.specs.Intake.{Intake, vlan_or, by_tag, intake_of}
use Rattle.frame.specs.Intake as intake
use Rattle.frame.specs.Bytes.{octets_of, source_of, pair_at, tag, tag_of}
use Rattle.plan.specs.Enter.{Entered, by_place, by_intake, enter_of}
use Rattle.plan.specs.Enter as entered
use Rattle.plan.specs.Steps.{placed_of, outsider, kept_out}
use Rattle.judge.specs.Refusal.{refusal_of}
use Rattle.exactly.specs.Decides.{Decides, Decided}
use Rattle.exactly.specs.DecidesLaws.{also, by_lt, by_le, by_eq, by_or, by_and, by_unless, by_when, by_words, by_not, by_some}
use Rattle.exactly.specs.RulesProved.{is_incomplete}
use Rattle.exactly.specs.Steps.{NotLoaded, CreditOver, OctetsOff, CountsOff, OutOfRange, has_tag, tag_vlan, vlan_of, priority_of, place_of, Enforced, frame_page}
use Rattle.exactly.specs.Replicas.{replica_page}
use Rattle.exactly.specs.ReplicasLaws as replica
use Rattle.exactly.specs.StepTests.{replica_tests, untagged_dropped, enforced, placed_by, entered_by, refused_by, step_tests}

-- ---- each clause has a test

is_over_limit : (image : List ℕ) → Decides (over_limit image) ((t : Table) × (most_of t < count_of image t))
unfolding over_limit
is_over_limit image =
    by_words _ (λ s. ((row_at s.0).table, s.2))
    (λ s. (index_of s.0, (placed s.0).inside, subst (λ (t : Table). most_of t < count_of image t) (sym (placed s.0).back) s.1))
    (by_some table_count (λ k. above image (row_at k).table) (λ k. most_of (row_at k).table < count_of image (row_at k).table) (λ k. by_lt _ _))

is_not_loaded : (image : List ℕ) → Decides (not_loaded image) (NotLoaded image)
unfolding not_loaded
is_not_loaded image = by_or _ _ (by_not _ (by_eq _ 1)) (by_or _ _ (is_over_limit image) (is_incomplete image))

-- a full meter, by whether its entry is loaded
is_credit_over : (image : List ℕ) (k c : ℕ) → Decides (ltb (full_of image k) c) (CreditOver image k c)
is_credit_over image k c = go (ltb k (count_of image Policing)) refl
  where
    go : (b : Bool) → ltb k (count_of image Policing) ≡ b → Decides (ltb (cond b (smax image k * 8000000) 0) c) (CreditOver image k c)
    go true e =
        let h = ltb-true k _ e in
        by_words _ (λ l. inl (h, l)) (λ s. ⊎_elim (λ x. x.1) (λ y. absurd (lt_irrefl k (lt_of_lt_of_le h y.0))) s) (by_lt (smax image k * 8000000) c)
    go false e =
        let h = ltb-false k _ e in
        by_words _ (λ l. inr (h, l)) (λ s. ⊎_elim (λ x. absurd (lt_irrefl k (lt_of_lt_of_le x.0 h))) (λ y. y.1) s) (by_lt 0 c)

is_octets_off : (count octets : ℕ) → Decides (octets_off count octets) (OctetsOff count octets)
unfolding octets_off
is_octets_off count octets = by_or _ _ (by_lt octets _) (by_lt _ octets)

is_counts_off : (frames drops octets dropped : ℕ) → Decides (counts_off frames drops octets dropped) (CountsOff frames drops octets dropped)
is_counts_off frames drops octets dropped =
    by_or _ _ (by_lt frames drops) (by_or _ _ (is_octets_off frames octets) (by_or _ _ (is_octets_off drops dropped) (by_lt octets dropped)))

is_out_of_range : (image g : List ℕ) → Decides (out_of_range image g) (OutOfRange image g)
unfolding out_of_range
is_out_of_range image g =
    by_or _ _ (by_some 8 _ _ (λ j. by_lt (part_spc image j) (cell g units j)))
    (by_or _ _ (by_some 45 _ _ (λ k. is_credit_over image k (cell g credit k)))
    (by_or _ _ (by_some 5 _ _ (λ p. is_counts_off (cell g frames p) (cell g drops p) (cell g octets p) (cell g dropped p)))
    (by_or _ _ (by_some 45 _ _ (λ k. by_lt (cell g last 0) (cell g since k))) (by_lt latest (cell g last 0)))))

-- 6: the code asks DESTPORTS before the address and the VLAN
is_enforced : (image : List ℕ) (port : ℕ) (frame : List ℕ) → Decides (enforced image port frame) (Enforced image port frame)
is_enforced image port frame =
    by_some (count_of image AddressLookup) _ _
    (λ i. by_words _ (λ s. (s.0, s.1.1.0, s.1.1.1, s.1.0)) (λ s. (s.0, (s.3, (s.1, s.2))))
    (by_unless _ _ (by_eq (enfport image i) 0)
    (by_unless _ _ (by_eq (destports image i / 2 ^ port % 2) 1)
    (by_when _ _ (by_eq (macaddr image i) (source_of frame)) (by_or _ _ (by_eq (shared_learn image) 1) (by_eq (address_vlanid image i) (vlan_of image port frame)))))))

-- each clause of the page has its test
pub decided : (buffer g : List ℕ) (port time : ℕ) (frame : List ℕ) → Decided (frame_page buffer g port time frame) (step_tests buffer g port time frame)
decided buffer g port time frame =
    also (by_lt (length buffer) 11520)
    (also (is_not_loaded image)
    (also (is_out_of_range image g)
    (also (by_lt 4 port)
    (also (by_or _ _ (by_lt time (cell g last 0)) (by_lt latest time))
    (also (by_lt 4096 (length frame))
    (also (by_le 4294967295 (cell g frames port))
    (also (by_lt (octets_of frame) 64)
    (also (by_eq (ingress image port) 0)
    (also (by_unless _ _ (by_eq (pair_at frame 12) 0x8100) (by_not _ (by_eq (drpuntag image port) 0)))
    (also onward.0
    (also (by_and _ _ (by_eq (pair_at frame 12) 0x8100) (by_not _ (by_eq (vmemb_port image (place_of image port frame) / 2 ^ port % 2) 1)))
    (also (is_enforced image port frame) onward.1))))))))))))
  where
    image : List ℕ
    image = image_in buffer

    -- 4, and 7 to 11, as of a replica on this VLAN and with this priority
    onward : Decided (replica_page image g port time frame (vlan_of image port frame) (priority_of image port frame))
        (replica_tests image g port time frame (vlan_of image port frame) (priority_of image port frame))
    onward = replica.decided image g port time frame (vlan_of image port frame) (priority_of image port frame)

-- ---- what refuses a frame asks its tests in this order

pub refusal_is : (buffer g : List ℕ) (port time : ℕ) (frame : List ℕ) → refusal_of buffer g port time frame ≡ refused_by buffer g port time frame 0
unfolding refusal_of standing unloaded
refusal_is buffer g port time frame = go (too_short buffer) (not_loaded (image_in buffer)) (out_of_range (image_in buffer) g) _
  where
    stands : Bool → Bool → Bool → ℕ
    stands a b c = cond (eqb (cond a 31 (cond b 30 0)) 0) (cond c 39 0) (cond a 31 (cond b 30 0))

    go : (a b c : Bool) (n : ℕ) → cond (eqb (stands a b c) 0) n (stands a b c) ≡ cond a 31 (cond b 30 (cond c 39 n))
    go true b c n = refl
    go false true c n = refl
    go false false true n = refl
    go false false false n = refl

-- ---- and so do steps 1 to 6
module _ (image : List ℕ) (port : ℕ) (frame : List ℕ) where
  place_is : (vlan priority : ℕ) (tagged : Bool)
      → by_place image port frame vlan priority tagged (placed_of image vlan) ≡ placed_by image port frame vlan priority tagged
  unfolding placed_of kept_out
  place_is vlan priority tagged = four (no_vlan image vlan)
    where
      place : ℕ
      place = vlan_at image vlan

      five : (a b : Bool)
          → cond (eqb (cond a 5 (cond b 6 0)) 0) (entered.In vlan place priority) (entered.Dropped (cond a 5 (cond b 6 0)))
          ≡ cond a (entered.Dropped 5) (cond b (entered.Dropped 6) (entered.In vlan place priority))
      five true b = refl
      five false true = refl
      five false false = refl

      four : (t : Bool)
          → by_place image port frame vlan priority tagged (cond t None (Some place))
          ≡ cond t (entered.Dropped 4)
          (cond (outsider image port tagged place) (entered.Dropped 5)
          (cond (barred image port vlan (source_of frame)) (entered.Dropped 6) (entered.In vlan place priority)))
      four true = refl
      four false = five (outsider image port tagged place) (barred image port vlan (source_of frame))

  -- the first of their tests that holds drops the frame
  pub enter_is : enter_of image port frame ≡ entered_by image port frame
  unfolding enter_of intake_of tag_of
  enter_is = one (ltb (octets_of frame) 64) (eqb (ingress image port) 0)
    where
      of : Intake → Entered
      of q = by_intake image port frame q

      untagged : (d : Bool)
          → of (cond d (intake.Dropped 3) (intake.Taken (port_vlanid image port) (vlanprio image port) false))
          ≡ cond d (entered.Dropped 3) (placed_by image port frame (port_vlanid image port) (vlanprio image port) false)
      untagged true = refl
      untagged false = place_is (port_vlanid image port) (vlanprio image port) false

      three : (h : Bool)
          → of (by_tag image port (cond h (Some (tag 12 (pair_at frame 14 / 8192 % 8) (tag_vlan frame))) None))
          ≡ cond (cond h false (not (eqb (drpuntag image port) 0))) (entered.Dropped 3)
          (placed_by image port frame (cond h (vlan_or image port (tag_vlan frame)) (port_vlanid image port)) (cond h (pair_at frame 14 / 8192 % 8) (vlanprio image port)) h)
      three true = place_is (vlan_or image port (tag_vlan frame)) (pair_at frame 14 / 8192 % 8) true
      three false = untagged (not (eqb (drpuntag image port) 0))

      one : (a b : Bool)
          → of (cond a (intake.Dropped 1) (cond b (intake.Dropped 2) (by_tag image port (tag_of frame))))
          ≡ cond a (entered.Dropped 1)
          (cond b (entered.Dropped 2)
          (cond (untagged_dropped image port frame) (entered.Dropped 3)
          (placed_by image port frame (vlan_of image port frame) (priority_of image port frame) (has_tag frame))))
      one true b = refl
      one false true = refl
      one false false = three (has_tag frame)
