-- words of public clauses; read them from the top
pub mod Faults
pub mod Shelf
pub mod Sink
pub mod Memory
pub mod Device
-- words of private clauses alone
pub mod Inside
