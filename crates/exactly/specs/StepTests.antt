-- A test for each clause of a frame's page and of a replica's, and what the refusals and steps 1 to 6 make of theirs.
use Rattle.std.specs.Prelude.{Bool, true, false, cond, not, List, [], ◌∷◌, ℕ, ◌*◌, ltb, leb, eqb, length}
use Rattle.image.specs.Layout.{image_in, count_of}
use Rattle.image.specs.Loaded.{too_short, not_loaded}
use Rattle.image.specs.declared.tables.Table.TheVariants.{Policing}
use Rattle.fields.specs.Fields.{maxlen, partition, drpuntag, ingress}
use Rattle.lookup.specs.Vlan.{vlan_at}
use Rattle.addresses.specs.Address.{barred}
use Rattle.broken.specs.Broken.{no_vlan}
use Rattle.ledger.specs.Row.{units, frames, last, cell}
use Rattle.ledger.specs.Range.{out_of_range}
use Rattle.frame.specs.Bytes.{octets_of, source_of}
use Rattle.plan.specs.Enter.{Entered, Dropped, In}
use Rattle.plan.specs.Steps.{outsider}
use Rattle.judge.specs.Refusal.{mistimed}
use Rattle.exactly.specs.OnVlan.{policer_at, meter_at, credit_at, ports_on}
use Rattle.exactly.specs.Steps.{has_tag, vlan_of, priority_of, place_of}

-- ---- on a VLAN, with a priority

module _ (image : List ℕ) (port : ℕ) (frame : List ℕ) where
  -- 7
  abbrev pub not_policed : ℕ → Bool
  not_policed priority = cond (leb (count_of image Policing) (policer_at port frame priority)) true (leb (count_of image Policing) (meter_at image port frame priority))

  -- 8
  abbrev pub too_long : ℕ → Bool
  too_long priority = ltb (maxlen image (policer_at port frame priority)) (octets_of frame)

  -- 9
  abbrev pub meter_short : List ℕ → ℕ → ℕ → Bool
  meter_short g time priority = ltb (credit_at image port frame priority g time) (octets_of frame * 8000000)

  -- 10
  abbrev pub no_port : ℕ → Bool
  no_port vlan = eqb (ports_on image port frame vlan) 0

  -- 11
  abbrev pub no_unit : List ℕ → ℕ → Bool
  no_unit g priority = ltb (cell g units (partition image (policer_at port frame priority))) 1

-- the tests of a replica's page, in its order
abbrev pub replica_tests : List ℕ → List ℕ → ℕ → ℕ → List ℕ → ℕ → ℕ → List Bool
replica_tests image g port time frame vlan priority =
    no_vlan image vlan
    ∷ not_policed image port frame priority
    ∷ too_long image port frame priority
    ∷ meter_short image port frame g time priority
    ∷ no_port image port frame vlan
    ∷ no_unit image port frame g priority
    ∷ []

-- ---- a frame's

module _ (image : List ℕ) (port : ℕ) (frame : List ℕ) where
  -- 3
  abbrev pub untagged_dropped : Bool
  untagged_dropped = cond (has_tag frame) false (not (eqb (drpuntag image port) 0))

  -- 5
  abbrev pub not_member : Bool
  not_member = outsider image port (has_tag frame) (place_of image port frame)

  -- 6
  abbrev pub enforced : Bool
  enforced = barred image port (vlan_of image port frame) (source_of frame)

  -- 4 to 6 of a frame by its VLAN and its priority
  abbrev pub placed_by : ℕ → ℕ → Bool → Entered
  placed_by vlan priority tagged =
      cond (no_vlan image vlan) (Dropped 4)
      (cond (outsider image port tagged (vlan_at image vlan)) (Dropped 5)
      (cond (barred image port vlan (source_of frame)) (Dropped 6) (In vlan (vlan_at image vlan) priority)))

  -- 1 to 6
  abbrev pub entered_by : Entered
  entered_by =
      cond (ltb (octets_of frame) 64) (Dropped 1)
      (cond (eqb (ingress image port) 0) (Dropped 2)
      (cond untagged_dropped (Dropped 3) (placed_by (vlan_of image port frame) (priority_of image port frame) (has_tag frame))))

module _ (buffer g : List ℕ) (port time : ℕ) (frame : List ℕ) where
  abbrev image : List ℕ
  image = image_in buffer

  abbrev vlan : ℕ
  vlan = vlan_of image port frame

  abbrev priority : ℕ
  priority = priority_of image port frame

  -- the first of the refusals' tests that holds refuses the frame; where none does, n
  abbrev pub refused_by : ℕ → ℕ
  refused_by n =
      cond (too_short buffer) 31
      (cond (not_loaded image) 30
      (cond (out_of_range image g) 39
      (cond (ltb 4 port) 33
      (cond (mistimed (cell g last 0) time) 34 (cond (ltb 4096 (length frame)) 35 (cond (leb 4294967295 (cell g frames port)) 38 n))))))

  -- the tests of a frame's page, in its order
  abbrev pub step_tests : List Bool
  step_tests =
      too_short buffer
      ∷ not_loaded image
      ∷ out_of_range image g
      ∷ ltb 4 port
      ∷ mistimed (cell g last 0) time
      ∷ ltb 4096 (length frame)
      ∷ leb 4294967295 (cell g frames port)
      ∷ ltb (octets_of frame) 64
      ∷ eqb (ingress image port) 0
      ∷ untagged_dropped image port frame
      ∷ no_vlan image vlan
      ∷ not_member image port frame
      ∷ enforced image port frame
      ∷ not_policed image port frame priority
      ∷ too_long image port frame priority
      ∷ meter_short image port frame g time priority
      ∷ no_port image port frame vlan
      ∷ no_unit image port frame g priority
      ∷ []
