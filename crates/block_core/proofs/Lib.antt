pub mod Frames
pub mod Painting
pub mod PairPainting
pub mod Shows
