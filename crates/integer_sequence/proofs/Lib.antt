pub mod Codes
pub mod Places
pub mod RoundTrip
pub mod Search
pub mod Groups
pub mod Turns
pub mod Ranged
pub mod CodeTables
