pub mod Histories
pub mod Proposals
pub mod Questions
pub mod Replayed
