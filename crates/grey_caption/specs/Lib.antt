pub mod Caption
pub mod Best
