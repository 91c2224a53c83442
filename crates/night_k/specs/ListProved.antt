-- The four events that the records of K's list are.
use Rattle.std.specs.Prelude.{◌≡◌, [], ◌∷◌, replicate}
use Rattle.std.proofs.Common.{ap}
use Rattle.records.specs.OfK.{list_of_k}
use Rattle.records.specs.Pins.{records_of_k}
use Rattle.kept.specs.History as event
use Rattle.night_k.specs.List.{events_of, events_in}

-- "untagged broadcasts of 60 bytes on port 0 at 10 and 20, release of 0, then 59 bytes on port 1 at 30"
pub events_of_k : events_in list_of_k
    ≡ event.frame 0 10 (replicate 60 0xFF) ∷ event.frame 0 20 (replicate 60 0xFF) ∷ event.release 0 ∷ event.frame 1 30 (replicate 59 0xFF) ∷ []
unfolding list_of_k
events_of_k = ap (events_of list_of_k) records_of_k
