-- words of public clauses; read them from the top
pub mod Values
pub mod Ends
pub mod Slots
-- words of private clauses alone
pub mod Inside
