pub mod Texels
