-- That nothing of a load state is lost in its numbers, nor of the numbers in the state.
pub mod Stored
pub mod Round
