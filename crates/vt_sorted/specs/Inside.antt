-- No public clause cites a module below.
pub mod Fronts
pub mod Places
pub mod Pieces
pub mod Held
pub mod Seen
