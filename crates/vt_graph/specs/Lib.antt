-- words of public clauses; read them from the top
pub mod Held
pub mod Asked
pub mod Having
pub mod Room
pub mod Passing
pub mod Listing
-- words of private clauses alone
pub mod Inside
