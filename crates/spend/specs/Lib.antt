-- What a frame spends: a meter's credit, a partition's unit, and its place in a tile's counts. Numbers only.
pub mod Meter
pub mod Spend
pub mod Answered
pub mod Proved
pub mod Counting
pub mod Laws
