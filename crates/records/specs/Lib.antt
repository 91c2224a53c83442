-- The frame list: what stands at a place of it, what an answer of the code says in the paper's numbers, and the walk from record to record.
pub mod List
pub mod Answer
pub mod Laws
pub mod Walk
pub mod OfK
pub mod Pins
pub mod Bytes
pub mod Differ
