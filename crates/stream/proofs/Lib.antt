-- Laws on what a function leaves, which every way of loading cites.
pub mod StatesLaws
