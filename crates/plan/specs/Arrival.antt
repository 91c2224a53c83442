-- How a frame comes: its port, its time, its octets L and its destination.
use Rattle.std.specs.Prelude.{List, ℕ}
use Rattle.frame.specs.Bytes.{octets_of, destination_of}
use Rattle.plan.specs.declared.Arrival.{Arrival}

abbrev pub arrival_of : ℕ → ℕ → List ℕ → Arrival
arrival_of port time frame = record { port = port; time = time; octets = octets_of frame; destination = destination_of frame }
