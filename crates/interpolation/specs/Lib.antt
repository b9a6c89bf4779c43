pub mod Expansion
pub mod Texel
pub mod inner
