-- words of public clauses
pub mod Jobs
