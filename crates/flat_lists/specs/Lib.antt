-- A record of a frame list as numbers, and what is promised of a place.
pub mod Lists
pub mod ListsLaws
