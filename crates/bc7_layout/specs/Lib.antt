pub mod Modes
pub mod Partitions
pub mod Layout
pub mod Tables
pub mod inner
