pub mod Covering
pub mod Regions
pub mod Blocks
