pub mod Faults
pub mod Told
pub mod Shown
pub mod Canonical
pub mod OnePasses
