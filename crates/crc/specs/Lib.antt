-- CRC-32 of IEEE 802.3 over 32-bit words: the definition, its check values, and the laws that proofs cite.
pub mod Crc
pub mod Check
pub mod Xor
pub mod Four
pub mod Arm
pub mod Bytes
