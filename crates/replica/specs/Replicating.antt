-- Row and places once n replicas of the first i entries are told.
use Rattle.std.specs.Prelude.{◌≡◌, List, ℕ, ◌≤◌, length}
use Rattle.replica.specs.Replica.{replicas_to, Replicates}

pub record Replicating (image g : List ℕ) (port time : ℕ) (frame : List ℕ) (vlan priority : ℕ) (before row places : List ℕ) (entries n i : ℕ) : Type 0 where
  pub within : i ≤ entries
  pub few : n ≤ i
  pub same : length places ≡ length before
  pub so_far : Replicates (replicas_to image g port time frame vlan priority i) before n row places
