pub mod Search
pub mod Refusals
pub mod Writing
pub mod RoundTrip
