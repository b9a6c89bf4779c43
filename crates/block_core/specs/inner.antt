pub mod Prepared
pub mod Held
pub mod Shows
