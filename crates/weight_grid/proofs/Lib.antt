pub mod Factors
pub mod Planes
pub mod Points
pub mod Reading
pub mod ByColumns
pub mod PairBlend
