-- No public clause cites a module below.
pub mod Telling
pub mod Naming
pub mod Working
