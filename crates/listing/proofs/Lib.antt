mod Both
pub mod Chains
pub mod Digits
pub mod Grown
pub mod Pairs
pub mod Prices
pub mod Rows
pub mod Signs
pub mod Standing
pub mod Steps
pub mod Whole
pub mod Worked
