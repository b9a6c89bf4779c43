pub mod Ranges
pub mod Unquantise
pub mod inner
