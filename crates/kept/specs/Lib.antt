-- A ledger of one's own is never refused with 39: a fresh one is in range, and each call keeps it there.
pub mod Lists
pub mod Fresh
pub mod Cells
pub mod Kept
pub mod KeptLaws
pub mod History
pub mod HistoryLaws
