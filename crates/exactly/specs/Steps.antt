-- A frame's page (document 01, "One frame, step by step"): its eighteen clauses as one literal list in the paper's order, and the verdict by the first.
use Rattle.std.specs.Prelude.{◌≡◌, ◌⊎◌, Bool, cond, List, [], ◌∷◌, ℕ, ◌-◌, ◌*◌, ◌/◌, ◌%◌, ◌^◌, ◌<◌, ◌≤◌, ltb, eqb, length}
use Rattle.image.specs.Rows.{most_of}
use Rattle.image.specs.Layout.{image_in, count_of, mark_of}
use Rattle.image.specs.declared.tables.Table.{Table}
use Rattle.image.specs.declared.tables.Table.TheVariants.{AddressLookup, Policing}
use Rattle.fields.specs.Fields.{address_vlanid, macaddr, destports, enfport, shared_learn, smax, maxlen, partition, vmemb_port, vlanprio, port_vlanid, drpuntag, ingress, part_spc}
use Rattle.lookup.specs.Vlan.{vlan_at}
use Rattle.ledger.specs.Row.{units, credit, since, frames, drops, octets, dropped, last, cell}
use Rattle.frame.specs.Bytes.{octets_of, source_of, pair_at}
use Rattle.ports.specs.declared.Sending.{Sending}
use Rattle.settle.specs.declared.Verdict.{Verdict}
use Rattle.settle.specs.declared.Verdict.TheVariants.{Refused, Drop, Sent}
use Rattle.exactly.specs.First.{Clause, clause, Some}
use Rattle.exactly.specs.Rules.{TooShort, Incomplete, NoVlan}
use Rattle.exactly.specs.OnVlan.{policer_at, meter_at, credit_at, NotPoliced, MeterShort, ports_on, sending_on}

-- ---- the call's refusals

-- 30: "image not marked loaded, or a count above its limit or such as rule 20 refuses"
abbrev pub NotLoaded : List ℕ → Type 0
NotLoaded image = (mark_of image ≡ 1 → ⊥) ⊎ ((t : Table) × (most_of t < count_of image t)) ⊎ Incomplete image

-- "credit above SMAX × 8,000,000 or above 0 for an entry not loaded"
abbrev pub CreditOver : List ℕ → ℕ → ℕ → Type 0
CreditOver image k credit = ((k < count_of image Policing) × (smax image k * 8000000 < credit)) ⊎ ((count_of image Policing ≤ k) × (0 < credit))

-- "octets not from 4 × frames to 4,100 × frames", and so for drops
abbrev pub OctetsOff : ℕ → ℕ → Type 0
OctetsOff count octets = (octets < 4 * count) ⊎ (4100 * count < octets)

-- "drops above frames, octets not from 4 × frames to 4,100 × frames, dropped octets not from 4 × drops to 4,100 × drops or above octets"
abbrev pub CountsOff : ℕ → ℕ → ℕ → ℕ → Type 0
CountsOff frames drops octets dropped = (frames < drops) ⊎ OctetsOff frames octets ⊎ OctetsOff drops dropped ⊎ (octets < dropped)

-- 39: "ledger out of range": "units left above PART_SPC", a meter's credit, a port's counts, "a meter's time above the last time, the last time above 2^48 − 1"
abbrev pub OutOfRange : List ℕ → List ℕ → Type 0
OutOfRange image g =
    Some 8 (λ j. part_spc image j < cell g units j)
    ⊎ Some 45 (λ k. CreditOver image k (cell g credit k))
    ⊎ Some 5 (λ p. CountsOff (cell g frames p) (cell g drops p) (cell g octets p) (cell g dropped p))
    ⊎ Some 45 (λ k. cell g last 0 < cell g since k)
    ⊎ (2 ^ 48 - 1 < cell g last 0)

-- 34: "time before the last time or above 2^48 − 1"
abbrev pub Mistimed : List ℕ → ℕ → Type 0
Mistimed g time = (time < cell g last 0) ⊎ (2 ^ 48 - 1 < time)

-- ---- what a frame has

-- "Tagged means bytes 12 and 13 are 81 00."
abbrev pub Tagged : List ℕ → Type 0
Tagged frame = pair_at frame 12 ≡ 0x8100

-- and as a test
abbrev pub has_tag : List ℕ → Bool
has_tag frame = eqb (pair_at frame 12) 0x8100

-- the tag's VLAN: its twelve low bits
abbrev pub tag_vlan : List ℕ → ℕ
tag_vlan frame = pair_at frame 14 % 4096

-- the port is in the mask: "port 0 the lowest bit"
abbrev pub In : ℕ → ℕ → Type 0
In mask port = mask / 2 ^ port % 2 ≡ 1

module _ (image : List ℕ) (port : ℕ) (frame : List ℕ) where
  -- "The tag gives .. VLAN; tagged with VLAN 0 takes the port's VLANID. Untagged takes the port's VLANID"
  abbrev pub vlan_of : ℕ
  vlan_of = cond (has_tag frame) (cond (eqb (tag_vlan frame) 0) (port_vlanid image port) (tag_vlan frame)) (port_vlanid image port)

  -- "The tag gives priority p .. Untagged takes the port's .. VLANPRIO."
  abbrev pub priority_of : ℕ
  priority_of = cond (has_tag frame) (pair_at frame 14 / 8192 % 8) (vlanprio image port)

  -- the VLAN's entry in 07: "the first of two 07 entries with one VLANID counts"
  abbrev pub place_of : ℕ
  place_of = vlan_at image vlan_of

  -- steps 7 to 11 on this VLAN and with this priority: k, its meter and the credit
  abbrev pub policer_for : ℕ
  policer_for = policer_at port frame priority_of

  abbrev pub meter_for : ℕ
  meter_for = meter_at image port frame priority_of

  abbrev pub credit_for : List ℕ → ℕ → ℕ
  credit_for = credit_at image port frame priority_of

  -- the ports, and what a sent frame is sent with
  abbrev pub ports_for : ℕ
  ports_for = ports_on image port frame vlan_of

  abbrev pub sending_for : Sending
  sending_for = sending_on image port frame vlan_of priority_of

  -- ---- the drops

  -- 3. "Untagged and DRPUNTAG set."
  abbrev pub UntaggedDropped : Type 0
  UntaggedDropped = (Tagged frame → ⊥) × (drpuntag image port ≡ 0 → ⊥)

  -- 5. "Tagged and the port is not in VMEMB_PORT."
  abbrev pub NotMember : Type 0
  NotMember = Tagged frame × (In (vmemb_port image place_of) port → ⊥)

  -- 6. "Some 05 entry has ENFPORT, the source address, and this VLAN (not compared under SHARED_LEARN), and its DESTPORTS lacks the port."
  abbrev pub Enforced : Type 0
  Enforced =
      Some (count_of image AddressLookup)
      (λ i. (enfport image i ≡ 0 → ⊥)
      × (macaddr image i ≡ source_of frame)
      × ((shared_learn image ≡ 1) ⊎ (address_vlanid image i ≡ vlan_of))
      × (In (destports image i) port → ⊥))

-- ---- the page

-- "Call refusals, in order", then "the first drop that applies is the verdict"
abbrev pub frame_page : List ℕ → List ℕ → ℕ → ℕ → List ℕ → List Clause
frame_page buffer g port time frame =
    clause 31 (TooShort buffer)
    ∷ clause 30 (NotLoaded (image_in buffer))
    ∷ clause 39 (OutOfRange (image_in buffer) g)
    ∷ clause 33 (4 < port)
    ∷ clause 34 (Mistimed g time)
    ∷ clause 35 (4096 < length frame)
    ∷ clause 38 (2 ^ 32 - 1 ≤ cell g frames port)
    ∷ clause 1 (octets_of frame < 64)
    ∷ clause 2 (ingress (image_in buffer) port ≡ 0)
    ∷ clause 3 (UntaggedDropped (image_in buffer) port frame)
    ∷ clause 4 (NoVlan (image_in buffer) (vlan_of (image_in buffer) port frame))
    ∷ clause 5 (NotMember (image_in buffer) port frame)
    ∷ clause 6 (Enforced (image_in buffer) port frame)
    ∷ clause 7 (NotPoliced (image_in buffer) port frame (priority_of (image_in buffer) port frame))
    ∷ clause 8 (maxlen (image_in buffer) (policer_for (image_in buffer) port frame) < octets_of frame)
    ∷ clause 9 (MeterShort (image_in buffer) port frame (priority_of (image_in buffer) port frame) g time)
    ∷ clause 10 (ports_for (image_in buffer) port frame ≡ 0)
    ∷ clause 11 (cell g units (partition (image_in buffer) (policer_for (image_in buffer) port frame)) ≡ 0)
    ∷ []

-- the verdict of a number: 0 is sent, from 30 on a call is refused, the others are drops
abbrev pub verdict_by : List ℕ → ℕ → List ℕ → ℕ → Verdict
verdict_by buffer port frame n = cond (eqb n 0) (Sent (sending_for (image_in buffer) port frame)) (cond (ltb n 30) (Drop n) (Refused n))

-- a verdict's number
abbrev pub number_in : Verdict → ℕ
number_in (Refused n) = n
number_in (Drop n) = n
number_in (Sent s) = 0
