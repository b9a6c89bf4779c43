pub mod Simplex
pub mod inner
