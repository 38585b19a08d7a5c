-- words of public clauses; read them from the top
pub mod Edits
pub mod Undoing
pub mod Changing
-- what the functions inside the crate promise each other
pub mod Inside
