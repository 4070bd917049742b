pub mod Balances
pub mod Best
pub mod Passed
pub mod Sheets
