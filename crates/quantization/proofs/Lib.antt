pub mod Arms
pub mod Levels
pub mod Ranges
