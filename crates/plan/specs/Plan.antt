-- A plan: drop 7 or 8, or the course that steps 9 to 11 take. It reads the image and the frame only, and is made on any VLAN, place and priority.
use Rattle.std.specs.Prelude.{Ok, Err, List, ℕ}
use Rattle.fields.specs.Fields.{smax, rate, partition}
use Rattle.frame.specs.Bytes.{octets_of, destination_of}
use Rattle.ports.specs.Ports.{ports_of, sending_of}
use Rattle.drops.specs.Numbers.{number_of}
use Rattle.plan.specs.declared.Course.{Course}
use Rattle.plan.specs.Police.{Policed, policed_of}

-- dropped with the step's number, or the course of steps 9 to 11
pub data Planned : Type 0 where
  Dropped : ℕ → Planned
  Goes : Course → Planned

-- "The meter and its SMAX and RATE are those of the SHARINDX entry"; "partition PARTITION of entry k"; where the frame goes if it comes to that
unfoldable pub course_of : List ℕ → ℕ → ℕ → ℕ → ℕ → ℕ → ℕ → ℕ → Course
course_of image port destination vlan place priority policer meter =
    record {
      meter = meter;
      smax = smax image meter;
      rate = rate image meter;
      partition = partition image policer;
      sending = sending_of image port (ports_of image port vlan place destination) vlan priority place;
    }

-- 7 and 8 by their answer
abbrev pub by_policer : List ℕ → ℕ → ℕ → ℕ → ℕ → ℕ → Policed → Planned
by_policer image port destination vlan place priority (Err d) = Dropped (number_of d)
by_policer image port destination vlan place priority (Ok p) = Goes (course_of image port destination vlan place priority p.entry p.meter)

unfoldable pub plan_of : List ℕ → ℕ → List ℕ → ℕ → ℕ → ℕ → Planned
plan_of image port frame vlan place priority =
    by_policer image port (destination_of frame) vlan place priority (policed_of image port priority (destination_of frame) (octets_of frame))
