pub mod Field
pub mod Block
pub mod Cells
