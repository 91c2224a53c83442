-- Laws of a run of data words.
pub mod Laws
pub mod Data
