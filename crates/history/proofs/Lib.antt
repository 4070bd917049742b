pub mod Kept
pub mod SentWith
pub mod Replayed
mod OneProposal
mod Questions
