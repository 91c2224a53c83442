-- A port's tile: not-loaded, no-frames, or two shares.
pub mod Tiles
pub mod TilesLaws
pub mod Shares
