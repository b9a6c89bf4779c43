pub mod Cut
pub mod Timely
pub mod ReadBack
pub mod Whole
pub mod ForGood
