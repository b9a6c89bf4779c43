pub mod Sixteenths
pub mod Simplex
pub mod Reading
pub mod Places
pub mod Samples
