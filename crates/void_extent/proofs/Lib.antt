pub mod Extents
pub mod Written
