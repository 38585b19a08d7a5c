-- words of public clauses; read them from the top
pub mod Symbols
pub mod Grammar
pub mod Fault
pub mod Forms
pub mod SameAs
pub mod Reading
pub mod Gives
-- what the ghost members of an impl cite
pub mod Inside
