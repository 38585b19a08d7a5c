-- words of public clauses; read them from the top
pub mod Lexicon
pub mod Spelling
pub mod Spans
pub mod Quoting
pub mod Lexemes
pub mod Words
-- words of private clauses alone
pub mod Inside
