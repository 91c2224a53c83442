pub mod ByteLaws
pub mod Promises
