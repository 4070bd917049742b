pub mod Mills
pub mod Bounds
