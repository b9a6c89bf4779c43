pub mod CodeBits
pub mod Products
pub mod Words
