pub mod Codes
pub mod Reading
pub mod Writing
pub mod RoundTrip
pub mod inner
