pub mod Bytes
pub mod Headers
pub mod Records
pub mod Kinds
