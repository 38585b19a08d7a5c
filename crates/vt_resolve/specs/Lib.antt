-- what the contracts say, in reading order
pub mod Entries
pub mod Choice
-- what the functions inside the crate promise each other
pub mod Inside
