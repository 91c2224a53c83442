-- Laws that the proofs of refusals and writes cite.
pub mod RefusalWrites
