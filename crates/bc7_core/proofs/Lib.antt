pub mod Indices
pub mod Painting
