-- words of public clauses; read them from the top
pub mod Terms
pub mod Holding
pub mod Tables
pub mod Calls
pub mod Numbers
pub mod WellFormed
pub mod Narrow
