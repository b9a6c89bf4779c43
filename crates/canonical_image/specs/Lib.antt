pub mod Frames
pub mod Agreed
