pub mod Candidates
pub mod Answering
pub mod Improving
pub mod Passing
