pub mod Places
pub mod Mixing
