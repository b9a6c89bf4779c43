pub mod Ask
pub mod Agree
