-- A night, as chains of outcomes that the entries permit, and what such a night shows.
pub mod Nights
pub mod NightLaws
pub mod RefusedProved
pub mod Loaded
pub mod LoadedProved
pub mod Sums
pub mod SumLaws
pub mod SumsProved
pub mod Policer
pub mod PolicerLaws
pub mod Meters
pub mod MetersProved
pub mod Units
pub mod UnitsProved
pub mod RangeProved
