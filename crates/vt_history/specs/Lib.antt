-- words of public clauses; read them from the top
pub mod History
pub mod Events
pub mod Report
-- what the functions inside the crate promise each other
pub mod Inside
