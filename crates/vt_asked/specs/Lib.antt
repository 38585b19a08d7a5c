-- words of public clauses; read them from the top
pub mod Named
pub mod Asking
