-- Steps 7 and 8, and what steps 9 to 11 need of a frame that passes them.
pub mod Arrival
pub mod Police
pub mod Plan
pub mod Sane
pub mod Proved
pub mod Steps
pub mod Enter
pub mod Answered
pub mod LetIn
pub mod EnterLaws
pub mod EnterProved
