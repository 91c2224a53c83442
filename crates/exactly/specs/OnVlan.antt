-- What steps 7 to 11 go by (document 01, "One frame, step by step"), on a VLAN and with a priority: a frame's page asks it on the frame's own VLAN, a
-- replica's on the entry's egress VLAN (document 02, request 2).
use Rattle.std.specs.Prelude.{◌⊎◌, List, ℕ, ◌+◌, ◌-◌, ◌*◌, ◌<◌, ◌≤◌, min}
use Rattle.image.specs.Layout.{count_of}
use Rattle.image.specs.declared.tables.Table.TheVariants.{Policing}
use Rattle.fields.specs.Fields.{sharindx, smax, rate}
use Rattle.lookup.specs.Vlan.{vlan_at}
use Rattle.ledger.specs.Row.{credit, since, cell}
use Rattle.frame.specs.Bytes.{octets_of, destination_of}
use Rattle.plan.specs.Police.{policer_of}
use Rattle.ports.specs.declared.Sending.{Sending}
use Rattle.ports.specs.Ports.{ports_of, sending_of}

-- ---- by the priority p

-- "k is 40 + port for destination FF:FF:FF:FF:FF:FF, else 8 × port + p"
abbrev pub policer_at : ℕ → List ℕ → ℕ → ℕ
policer_at port frame priority = policer_of port priority (destination_of frame)

module _ (image : List ℕ) (port : ℕ) (frame : List ℕ) (priority : ℕ) where
  -- "The meter and its SMAX and RATE are those of the SHARINDX entry."
  abbrev pub meter_at : ℕ
  meter_at = sharindx image (policer_at port frame priority)

  -- "Credit in millionths of a bit is the lesser of SMAX × 8,000,000 and old credit + elapsed µs × RATE × 15,625."
  abbrev pub credit_at : List ℕ → ℕ → ℕ
  credit_at g time =
      min (smax image meter_at * 8000000) (cell g credit meter_at + (time - cell g since meter_at) * rate image meter_at * 15625)

  -- 7. "Policing entry k, or the one its SHARINDX names, is not loaded."
  abbrev pub NotPoliced : Type 0
  NotPoliced = (count_of image Policing ≤ policer_at port frame priority) ⊎ (count_of image Policing ≤ meter_at)

  -- 9. "Meter short. .. It must reach L × 8,000,000"
  abbrev pub MeterShort : List ℕ → ℕ → Type 0
  MeterShort g time = credit_at g time < octets_of frame * 8000000

-- ---- on the VLAN

module _ (image : List ℕ) (port : ℕ) (frame : List ℕ) (vlan : ℕ) where
  -- "Ports, with 08's masks from entry port", and of 07 the VLAN's entry: "the first of two 07 entries with one VLANID counts"
  abbrev pub ports_on : ℕ
  ports_on = ports_of image port vlan (vlan_at image vlan) (destination_of frame)

  -- what is sent with: ports, VLAN, new priority, tags and queues
  abbrev pub sending_on : ℕ → Sending
  sending_on priority = sending_of image port ports_on vlan priority (vlan_at image vlan)
