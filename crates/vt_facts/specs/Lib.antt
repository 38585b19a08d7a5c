-- for a reader of the contracts, from the top
pub mod Names
pub mod Parts
pub mod Firsts
pub mod Lines
pub mod Room
-- words of private clauses alone
pub mod Inside
