pub mod Points
pub mod Columns
pub mod Pairs
