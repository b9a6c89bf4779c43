pub mod Fields
pub mod Refusals
pub mod Picture
pub mod Writing
pub mod Reading
pub mod Demand3
