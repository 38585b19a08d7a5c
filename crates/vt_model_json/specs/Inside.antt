-- No public clause cites a module below.
pub mod Entries
pub mod Parts
pub mod Plan
pub mod Shown
pub mod Stops
