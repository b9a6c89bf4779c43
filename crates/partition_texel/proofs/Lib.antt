pub mod Own
pub mod Partition
