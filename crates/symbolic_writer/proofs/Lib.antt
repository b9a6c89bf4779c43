pub mod Piled
pub mod Parts
pub mod Accepted
