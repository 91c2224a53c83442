-- The image: its tables as rows, where each entry, each count and the mark stand, and when an image is not to be judged.
pub mod Rows
pub mod Blocks
pub mod BlocksLaws
pub mod Layout
pub mod LayoutLaws
pub mod Pins
pub mod Placed
pub mod RowLaws
pub mod Ascending
pub mod AscendingLaws
pub mod Loaded
pub mod Standing
pub mod Images
pub mod Sound
pub mod SoundLaws
