-- words of public clauses; read them from the top
pub mod ModelDocument
pub mod Loading
pub mod Difference
pub mod Dump
-- words of private clauses alone
pub mod Inside
