-- The match that a search of 05 holds so far.
use Rattle.std.specs.Prelude.{◌≡◌, List, ℕ, ◌<◌, Option, Some, None}
use Rattle.laws.specs.Scan.{least}
use Rattle.fields.specs.Fields.{index}
use Rattle.addresses.specs.Address.{matches}
use Rattle.addresses.specs.Least.{Leads}
use Rattle.addresses.specs.declared.Best.{Best}

-- after i entries: none has matched, or the match with the lowest INDEX and that INDEX
abbrev pub Leading : List ℕ → ℕ → ℕ → ℕ → Option Best → Type 0
Leading image vlan mac i None = least i (matches image vlan mac) (index image) ≡ i
Leading image vlan mac i (Some best) =
    (least i (matches image vlan mac) (index image) ≡ best.entry) × (best.entry < i) × (best.index ≡ index image best.entry)

-- the same while the search is under way: where none has matched, entry 0 and an INDEX of 1,024, which is above every INDEX
abbrev pub Kept : List ℕ → ℕ → ℕ → ℕ → Best → Type 0
Kept image vlan mac i best = Leads 0 1024 (matches image vlan mac) (index image) i best.entry best.index
