pub mod Frame
pub mod Lanes
