-- Steps 7 and 8 (document 01, "One frame, step by step").
use Rattle.std.specs.Prelude.{cond, Result, Ok, Err, List, ℕ, ◌+◌, ◌*◌, ltb, leb}
use Rattle.image.specs.Layout.{count_of}
use Rattle.image.specs.declared.tables.Table.TheVariants.{Policing}
use Rattle.fields.specs.Fields.{sharindx, maxlen}
use Rattle.frame.specs.Bytes.{broadcasts}
use Rattle.drops.specs.declared.Dropped.{Dropped}
use Rattle.drops.specs.declared.Dropped.TheVariants.{NotPoliced, TooLong}
use Rattle.plan.specs.declared.Policer.{Policer}

-- dropped at 7 or 8, or let through by entry k with the meter of an entry
abbrev pub Policed : Type 0
Policed = Result Policer Dropped

abbrev pub by : ℕ → ℕ → Policer
by k meter = record { entry = k; meter = meter }

-- "k is 40 + port for destination FF:FF:FF:FF:FF:FF, else 8 × port + p"
abbrev pub policer_of : ℕ → ℕ → ℕ → ℕ
policer_of port priority destination = cond (broadcasts destination) (40 + port) (8 * port + priority)

-- 7 for the entry that SHARINDX names, then 8: "L above MAXLEN of entry k"
abbrev pub metered_by : List ℕ → ℕ → ℕ → ℕ → Policed
metered_by image k meter octets =
    cond (leb (count_of image Policing) meter) (Err NotPoliced) (cond (ltb (maxlen image k) octets) (Err TooLong) (Ok (by k meter)))

-- 7. "Policing entry k, or the one its SHARINDX names, is not loaded."
abbrev pub policed_by : List ℕ → ℕ → ℕ → Policed
policed_by image k octets = cond (leb (count_of image Policing) k) (Err NotPoliced) (metered_by image k (sharindx image k) octets)

unfoldable pub policed_of : List ℕ → ℕ → ℕ → ℕ → ℕ → Policed
policed_of image port priority destination octets = policed_by image (policer_of port priority destination) octets
