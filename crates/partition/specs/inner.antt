pub mod Seeds
pub mod Layers
