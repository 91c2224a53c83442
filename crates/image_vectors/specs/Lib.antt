-- What the readers of fields ask, from what every step of a load keeps.
pub mod Fit
