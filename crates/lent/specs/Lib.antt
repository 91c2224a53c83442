-- A ledger brought up to date by a record.
pub mod Brings
