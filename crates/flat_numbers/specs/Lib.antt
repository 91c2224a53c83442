-- A load state as six numbers in a row, and back; an answer as a number.
pub mod Flat
pub mod FlatLaws
