-- A frame's bytes: its addresses and its tag, and steps 1 to 3, which take it in.
pub mod Bytes
pub mod Intake
pub mod Answered
pub mod Whole
pub mod Laws
pub mod Proved
