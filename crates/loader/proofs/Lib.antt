-- Laws on one word and on what is left of a run, which `quick` and `whole` cite too, and laws that several proofs of headers cite.
pub mod Laws
pub mod HeadersLaws
