-- The loading rules in their order, and the first one broken.
pub mod Rules
pub mod Told
pub mod Run
pub mod Numbers
pub mod NumbersLaws
