-- words of public clauses; read them from the top
pub mod Rules
pub mod Scope
pub mod Resolving
pub mod Queries
-- words of private clauses alone
pub mod Inside
