-- words of public clauses; read them from the top
pub mod Expressions
pub mod Terms
pub mod Rules
pub mod Parts
-- words of private clauses, and what the ghost members of an impl cite
pub mod Inside
