-- The tables of CRC-32 by sixteen bytes: what each entry is.
pub mod Table
pub mod Test
pub mod TestLaws
