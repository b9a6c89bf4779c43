pub mod Sheets
pub mod Picture
pub mod Choice
pub mod Bits
pub mod Demand
pub mod Samples
pub mod Choices
pub mod Whole
