pub mod MatchingProved
pub mod ReplicasProved
