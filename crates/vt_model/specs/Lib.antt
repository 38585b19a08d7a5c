-- words of public clauses; read them from the top
pub mod Metamodel
pub mod Sound
pub mod Model
pub mod Creating
pub mod Assigning
pub mod Linking
pub mod Containing
pub mod Deleting
pub mod Effect
pub mod Transaction
pub mod Storable
pub mod Fits
pub mod Valid
pub mod Kept
pub mod Base
pub mod Touched
-- what the reader of documents is told
pub mod Places
pub mod Above
-- words of private clauses alone
pub mod Inside
