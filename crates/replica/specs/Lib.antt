-- Replicas: which entries of 12 yield one, and what it comes to.
pub mod Replica
pub mod Replicating
pub mod Keeps
