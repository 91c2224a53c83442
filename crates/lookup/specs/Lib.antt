-- What is looked up in 07 of a loaded image, and the laws of a search by groups.
pub mod Found
pub mod FoundLaws
pub mod Vlan
pub mod Groups
pub mod GroupsLaws
pub mod Proved
