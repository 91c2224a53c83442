-- What is promised of a lent row.
pub mod Frames
pub mod FramesLaws
