pub mod Example
pub mod Figures
pub mod Growth
pub mod Lines
pub mod Payable
pub mod View
