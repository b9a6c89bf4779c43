pub mod Place
pub mod Cell
pub mod Bilinear
pub mod inner
