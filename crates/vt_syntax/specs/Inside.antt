-- No public clause cites a module below.
pub mod Factored
pub mod SameChoices
pub mod SameFile
