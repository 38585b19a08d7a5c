-- No public clause cites a module below.
pub mod Factored
pub mod SameFile
pub mod Resolved
