-- what the contracts say, in reading order
pub mod Columns
pub mod Operators
pub mod Rows
pub mod Members
pub mod Plans
-- for the crate alone
pub mod Inside
