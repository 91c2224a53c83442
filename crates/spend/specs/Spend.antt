-- Drops 9, 10 and 11 and what each verdict leaves in one meter, one partition and one port's counts (document 01, steps 9 to 11).
use Rattle.std.specs.Prelude.{Bool, cond, ℕ, ◌+◌, ◌-◌, ltb, eqb}
use Rattle.spend.specs.declared.Meter.{Meter}
use Rattle.spend.specs.declared.Counts.{Counts}
use Rattle.spend.specs.Meter.{refilled, cost}

-- the verdict's number, 0 for sent, and the credit, the time and the units that are left
pub record Spent : Type 0 where
  pub drop : ℕ
  pub credit : ℕ
  pub since : ℕ
  pub units : ℕ

-- what a sent frame of L octets takes of its partition
abbrev pub units_of : ℕ → ℕ
units_of octets = 1

-- the verdict's number, 0 for sent; the credit and the units that are left; "short or not, both credit and now are stored"
abbrev pub spent : ℕ → ℕ → ℕ → ℕ → Spent
spent drop credit now units = record { drop = drop; credit = credit; since = now; units = units }

-- the frame is paid for. 10: "no port to send to". 11: "partition has no unit left. A sent frame takes one unit."
-- "Spent credit stays spent at drops 10 and 11."
unfoldable pub paid_of : ℕ → ℕ → ℕ → ℕ → ℕ → Spent
paid_of credit now units octets ports =
    cond (eqb ports 0) (spent 10 credit now units)
    (cond (ltb units (units_of octets)) (spent 11 credit now units) (spent 0 credit now (units - units_of octets)))

-- the meter at `now`
abbrev pub credit_at : Meter → ℕ → ℕ
credit_at m now = refilled m.smax m.rate m.credit (now - m.since)

-- 9: "Meter short." Elapsed is since the meter's own time
unfoldable pub spent_of : Meter → ℕ → ℕ → ℕ → ℕ → Spent
spent_of m now units octets ports =
    cond (ltb (credit_at m now) (cost octets)) (spent 9 (credit_at m now) now units)
    (paid_of (credit_at m now - cost octets) now units octets ports)

-- "every verdict sets the tile": a frame and its octets, and both again where it was dropped
unfoldable pub counted_of : Counts → ℕ → Bool → Counts
counted_of n octets dropped =
    record {
      frames = n.frames + 1;
      drops = n.drops + cond dropped 1 0;
      octets = n.octets + octets;
      dropped = n.dropped + cond dropped octets 0;
    }
