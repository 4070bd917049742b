pub mod States
pub mod Calls
pub mod View
pub mod Totals
pub mod Sent
