-- No public clause cites a module below.
pub mod SameLaws
pub mod Heading
