pub mod Proved
pub mod ReplicaCases
pub mod ReplicaLaws
