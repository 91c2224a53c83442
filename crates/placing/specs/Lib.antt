-- Where a block's data go.
pub mod Places
pub mod Refusal
pub mod Refused
