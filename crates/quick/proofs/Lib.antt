-- Laws on runs in parts, which `whole` cites too.
pub mod Laws
