-- No public clause cites a module below.
pub mod Place
pub mod Shape
