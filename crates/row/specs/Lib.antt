-- A fresh ledger, and a release.
pub mod Fresh
pub mod FreshLaws
pub mod Release
pub mod ReleaseLaws
pub mod Proved
