-- What is looked up in 05 of a loaded image.
pub mod Address
pub mod Least
pub mod LeastLaws
pub mod Leading
pub mod LeadingLaws
pub mod Proved
