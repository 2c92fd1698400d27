pub mod Front
pub mod Leads
pub mod Reasons
pub mod Trail
pub mod Candidates
pub mod Settled
