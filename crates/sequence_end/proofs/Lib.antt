pub mod Missing
pub mod Ended
