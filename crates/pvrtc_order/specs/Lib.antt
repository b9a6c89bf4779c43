pub mod Order
pub mod Once
