-- When an image breaks a loading rule after 20, and what the tests of that lean on.
pub mod Broken
pub mod Passes
pub mod PassesLaws
pub mod Proved
