-- A frame's own policing entry (document 01, step 7): the one whose SHARINDX names its meter and whose PARTITION its units.
use Rattle.std.specs.Prelude.{◌≡◌, List, ℕ}
use Rattle.frame.specs.Bytes.{destination_of}
use Rattle.plan.specs.Enter.{In, enter_of}
use Rattle.plan.specs.Police.{policer_of}

-- "k is 40 + port for destination FF:FF:FF:FF:FF:FF, else 8 × port + p", of a frame that steps 1 to 6 let in with priority p
pub record Polices (image : List ℕ) (port : ℕ) (bytes : List ℕ) (k : ℕ) : Type 0 where
  pub vlan : ℕ
  pub place : ℕ
  pub priority : ℕ
  pub entered : enter_of image port bytes ≡ In vlan place priority
  pub is : k ≡ policer_of port priority (destination_of bytes)
