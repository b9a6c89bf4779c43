pub mod Step
pub mod Feed
pub mod Pieces
pub mod Frames
pub mod Theorems
