-- words of public clauses; read them from the top
pub mod Document
pub mod Declarations
pub mod Built
pub mod Faults
pub mod Reading
-- words of private clauses alone
pub mod Inside
