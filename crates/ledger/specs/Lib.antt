-- The ledger: its row, when it is out of range, and what refuses a call before its own numbers are looked at.
pub mod Row
pub mod Range
pub mod Stands
pub mod Above
pub mod AboveLaws
pub mod Answers
pub mod AnswersLaws
pub mod Proved
pub mod Refusals
pub mod RefusalsLaws
