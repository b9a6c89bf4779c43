pub mod Tiles
pub mod Calls
