-- for a reader of the contracts, from the top
pub mod Keyed
pub mod Side
-- what the functions inside the crate promise each other
pub mod Inside
