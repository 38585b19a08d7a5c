-- No public clause cites a module below.
pub mod OrderLaws
pub mod Further
