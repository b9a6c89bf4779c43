pub mod Painting
