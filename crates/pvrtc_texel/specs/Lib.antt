pub mod Word
pub mod Texel
pub mod Image
pub mod Counting
