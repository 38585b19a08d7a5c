-- for a reader of the contracts, from the top
pub mod Changes
pub mod Deltas
-- what the functions inside the crate promise each other
pub mod Inside
