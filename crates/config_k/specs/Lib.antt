-- Configuration K: its stream's words, its tables, and that the stream loads with answer 0 and these tables.
pub mod Stream
pub mod Tables
pub mod TablesProved
pub mod Fields
pub mod FieldsProved
pub mod Loads
