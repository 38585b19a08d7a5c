-- No public clause cites a module below.
pub mod Inputs
pub mod Keys
