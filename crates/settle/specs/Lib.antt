-- Steps 9 to 11 on the row.
pub mod Settle
pub mod Answered
pub mod Runs
pub mod RunsLaws
pub mod After
pub mod Carried
pub mod Laws
pub mod Proved
pub mod Note
pub mod Countable
pub mod CountableLaws
pub mod Noted
