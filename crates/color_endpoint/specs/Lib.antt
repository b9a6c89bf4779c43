pub mod Modes
pub mod Table
