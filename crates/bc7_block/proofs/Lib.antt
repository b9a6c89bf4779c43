pub mod Views
pub mod Fits
pub mod Demand
pub mod Known
pub mod Bounds
pub mod Shown
