pub mod Image
pub mod Shown
pub mod inner
