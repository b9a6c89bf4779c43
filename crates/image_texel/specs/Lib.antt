pub mod Making
pub mod Asking
pub mod Agreement
pub mod inner
