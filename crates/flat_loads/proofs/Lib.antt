-- Laws that several proofs of loads by numbers cite.
pub mod Laws
