-- words of public clauses; read them from the top
pub mod Buffers
pub mod Run
pub mod Session
-- what the functions inside the crate promise each other
pub mod Inside
