-- Verdicts in lent places.
pub mod Places
pub mod PlacesLaws
pub mod Proved
