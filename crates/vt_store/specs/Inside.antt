-- No public clause cites a module below.
pub mod Displaced
pub mod Assigned
pub mod Kept
pub mod Levels
pub mod Waiting
pub mod Tested
pub mod Leaving
