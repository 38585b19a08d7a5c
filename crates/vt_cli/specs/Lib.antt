-- words of public clauses; read them from the top
pub mod Command
pub mod Lines
pub mod Texts
pub mod Unbuilt
pub mod Refusals
pub mod Lists
pub mod Replies
pub mod Running
pub mod Result
pub mod Answer
-- words of private clauses alone
pub mod Inside
