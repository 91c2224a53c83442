-- What a reader opens first: the three demands of document 00, the proved table of document 01 and each entry's one outcome, as statements over the
-- entries' own promises. A statement's proof is the theorem that it cites; that stands in the crate below that the import names.
pub mod Demand1
pub mod Demand2
pub mod Demand3
pub mod Replicas
pub mod Flat
pub mod Table
pub mod Once
