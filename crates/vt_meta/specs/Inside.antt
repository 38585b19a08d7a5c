-- What the functions inside the crate promise each other. No public clause cites a module below.
pub mod Places
pub mod Above
pub mod Features
pub mod Literals
pub mod Refused
pub mod Building
