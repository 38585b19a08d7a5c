-- words of public clauses; read them from the top
pub mod ExpressionRules
pub mod Parsing
pub mod Operators
pub mod Expression
pub mod Kinds
-- words of private clauses alone
pub mod Inside
