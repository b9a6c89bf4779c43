pub mod Rows
pub mod Numbers
pub mod Call
pub mod Sizes
pub mod OwnBlock
pub mod OneLayer
pub mod inner
