-- The tables of CRC-32 by two words: a register together with itself two words later, and an entry of a table of it.
pub mod Twice
pub mod TwiceLaws
pub mod Arm
pub mod ArmLaws
