pub mod Signed
pub mod Pair
pub mod Bounds
