-- CRC-32 over short runs: what a word leaves by the tables of two words, and what four words leave.
pub mod Turn
pub mod TurnLaws
