pub mod Sizes
pub mod Volumes
pub mod Blocks
pub mod Parts
pub mod Calls
pub mod Independence
pub mod Samples
pub mod OneLayer
