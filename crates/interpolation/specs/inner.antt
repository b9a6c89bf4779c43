pub mod Line
pub mod Mixes
