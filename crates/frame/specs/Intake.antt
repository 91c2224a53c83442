-- Steps 1 to 3: is the frame taken in, and with which VLAN and priority (document 01, "One frame, step by step").
use Rattle.std.specs.Prelude.{Bool, true, false, cond, not, Option, Some, None, List, ℕ, ltb, eqb}
use Rattle.fields.specs.Fields.{vlanprio, port_vlanid, drpuntag, ingress}
use Rattle.frame.specs.declared.Tag.{Tag}
use Rattle.frame.specs.Bytes.{octets_of, tag_of}

-- dropped with the step's number, or taken in with its VLAN and priority, tagged or not
pub data Intake : Type 0 where
  Dropped : ℕ → Intake
  Taken : ℕ → ℕ → Bool → Intake

-- "tagged with VLAN 0 takes the port's VLANID"
abbrev pub vlan_or : List ℕ → ℕ → ℕ → ℕ
vlan_or image port vlan = cond (eqb vlan 0) (port_vlanid image port) vlan

-- 3. "Untagged and DRPUNTAG set." "Untagged takes the port's VLANID and VLANPRIO."
abbrev pub untagged_of : List ℕ → ℕ → Intake
untagged_of image port = cond (not (eqb (drpuntag image port) 0)) (Dropped 3) (Taken (port_vlanid image port) (vlanprio image port) false)

abbrev pub by_tag : List ℕ → ℕ → Option Tag → Intake
by_tag image port None = untagged_of image port
by_tag image port (Some t) = Taken (vlan_or image port t.vlan) t.priority true

-- 1. "L below 64." 2. "The port's INGRESS is clear." Then 3
unfoldable pub intake_of : List ℕ → ℕ → List ℕ → Intake
intake_of image port frame =
    cond (ltb (octets_of frame) 64) (Dropped 1) (cond (eqb (ingress image port) 0) (Dropped 2) (by_tag image port (tag_of frame)))
