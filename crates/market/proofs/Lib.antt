pub mod Changed
pub mod Empty
pub mod Firsts
