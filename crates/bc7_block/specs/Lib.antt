pub mod Fields
pub mod Refusals
pub mod Reading
pub mod Writing
pub mod Picture
pub mod Demand
