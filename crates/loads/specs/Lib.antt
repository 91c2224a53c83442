-- What writes and whole loads leave, over the entries' own promises.
pub mod Chains
pub mod ChainsLaws
pub mod Refusals
pub mod RefusalsLaws
pub mod Moves
pub mod MovesLaws
pub mod RunsLaws
pub mod WaysLaws
pub mod Wholes
pub mod WholesLaws
pub mod Rest
pub mod Marked
pub mod AsFound
pub mod Given
pub mod Lists
pub mod ListsProved
pub mod TraceProved
