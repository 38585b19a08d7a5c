-- No public clause cites a module below.
pub mod Chains
pub mod Numbers
pub mod Indexed
