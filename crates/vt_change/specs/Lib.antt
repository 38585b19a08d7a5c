-- words of public clauses; read them from the top
pub mod Leading
pub mod Applying
-- what the functions inside the crate promise each other
pub mod Inside
