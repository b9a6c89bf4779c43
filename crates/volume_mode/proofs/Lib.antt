pub mod Limits
pub mod Modes
pub mod Samples
