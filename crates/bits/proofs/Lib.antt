pub mod Fields
pub mod Reverse
pub mod Blocks
pub mod Halves
pub mod Laid
