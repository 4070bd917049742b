pub mod CaseBytes
pub mod CaseReaders
pub mod ProposalBytes
pub mod Sections
pub mod Writing
pub mod Exact
pub mod InOrder
