-- what the contracts say, in reading order
pub mod Words
pub mod Commands
pub mod Script
pub mod Formed
-- what the functions inside the crate promise each other
pub mod Inside
