pub mod Mode3D
pub mod Back3D
pub mod Either
pub mod LeastMode
pub mod inner
