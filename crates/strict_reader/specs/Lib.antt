pub mod Sheets
pub mod Calls
