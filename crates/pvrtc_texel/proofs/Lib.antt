pub mod Local
pub mod Bounds
pub mod Each
pub mod Exact
pub mod Samples
pub mod Sides
pub mod Places
