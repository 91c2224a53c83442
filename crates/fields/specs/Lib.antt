-- The fields of the tables' entries, by the manual's bits.
pub mod Fields
pub mod Words
pub mod Laws
pub mod Packed
pub mod Proved
