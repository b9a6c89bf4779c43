pub mod Hash
pub mod Select
pub mod inner
