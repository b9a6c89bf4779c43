pub mod Pair
pub mod Texel
pub mod inner
