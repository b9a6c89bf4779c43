pub mod View
pub mod Made
