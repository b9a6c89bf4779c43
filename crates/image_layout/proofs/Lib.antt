pub mod Blocks
pub mod Tallies
pub mod Sizes
pub mod Calls
pub mod Walking
pub mod Parts
pub mod Independence
