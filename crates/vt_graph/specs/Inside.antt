-- No public clause cites a module below.
pub mod Stored
pub mod Planned
pub mod Making
pub mod Indexed
pub mod Ended
pub mod Spare
pub mod Rowed
