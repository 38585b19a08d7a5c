-- for a reader of the contracts, from the top
pub mod Order
pub mod Rows
pub mod Aggregate
pub mod Base
pub mod Names
pub mod Written
-- for the crate alone
pub mod Inside
