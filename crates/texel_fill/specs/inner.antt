pub mod Everywhere
