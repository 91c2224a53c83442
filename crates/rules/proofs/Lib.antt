pub mod Asked
pub mod ToldLaws
