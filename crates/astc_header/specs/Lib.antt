pub mod Header
pub mod Theorems
pub mod inner
