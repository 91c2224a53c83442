-- What is promised of loads by numbers.
pub mod Calls
pub mod CallsLaws
pub mod Through
pub mod Words
pub mod Kept
pub mod Data
