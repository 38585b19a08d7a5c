-- words of public clauses; read them from the top
pub mod Json
pub mod Shape
pub mod Names
