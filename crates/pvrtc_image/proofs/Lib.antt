pub mod Lines
pub mod Showing
pub mod Calls
