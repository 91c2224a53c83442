-- The drops and their numbers.
pub mod Numbers
pub mod Laws
