pub mod Geometry
pub mod Numbers
pub mod Faulty
pub mod Sizes
pub mod Call
pub mod OwnBlock
pub mod inner
