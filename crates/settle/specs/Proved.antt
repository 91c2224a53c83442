-- What pins the meter that a frame is held to.
use Rattle.std.specs.Prelude.{◌≡◌, refl, List, ℕ}
use Rattle.ledger.specs.Row.{since, cell}
use Rattle.plan.specs.declared.Course.{Course}
use Rattle.settle.specs.Settle.{meter_of, held_at}

-- elapsed is since the meter's own time, not the last time
pub own_time : (g : List ℕ) (w : Course) → (meter_of w (held_at g w)).since ≡ cell g since w.meter
own_time g w = refl
