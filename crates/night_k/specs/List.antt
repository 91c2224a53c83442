-- The events of a list, read from its own bytes.
use Rattle.std.specs.Prelude.{List, [], ◌∷◌, ℕ, take, drop}
use Rattle.records.specs.List.{Stands, frame, release, end, refused, first_place}
use Rattle.records.specs.Walk.{walk}
use Rattle.kept.specs.History.{Event}
use Rattle.kept.specs.History as event

-- the events that records are, each frame with the bytes that stand at its start, as many as its count
abbrev pub events_of : List ℕ → List Stands → List Event
events_of list [] = []
events_of list (frame port time start count next ∷ records) = event.frame port time (take count (drop start list)) ∷ events_of list records
events_of list (release partition next ∷ records) = event.release partition ∷ events_of list records
events_of list (end ∷ records) = []
events_of list (refused n ∷ records) = []

-- the events of a list: those of the records that stand in it
abbrev pub events_in : List ℕ → List Event
events_in list = events_of list (walk list first_place)
