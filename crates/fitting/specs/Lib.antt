pub mod Judged
pub mod Priced
pub mod Candidates
