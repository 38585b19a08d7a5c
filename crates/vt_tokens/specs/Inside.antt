-- No public clause cites a module below.
pub mod Scan
pub mod Scanned
pub mod Digits
