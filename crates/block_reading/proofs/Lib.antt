pub mod Solid
pub mod Strict
pub mod Told
pub mod Forms
pub mod Shows
