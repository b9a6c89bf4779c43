pub mod Feeding
pub mod Frames
