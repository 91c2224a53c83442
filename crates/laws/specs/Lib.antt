-- Laws that any proof cites: tests in a chain, scans over an index, tables proved by one computed test.
pub mod Agree
pub mod Chain
pub mod Says
pub mod SaysLaws
pub mod Scan
pub mod ScanLaws
pub mod Table
pub mod TableLaws
