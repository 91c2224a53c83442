pub mod ArmLaws
pub mod BytesLaws
pub mod FourLaws
pub mod Laws
pub mod Chunks
