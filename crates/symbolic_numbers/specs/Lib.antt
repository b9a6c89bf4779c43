pub mod Numbers
pub mod Calls
pub mod Back
pub mod inner
