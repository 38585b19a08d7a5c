-- words of public clauses; read them from the top
pub mod Ascending
-- words of private clauses alone
pub mod Inside
