-- CRC-32 by table, four words a turn: the tables of a turn, and what a word leaves by its table.
pub mod Turn
pub mod TurnLaws
