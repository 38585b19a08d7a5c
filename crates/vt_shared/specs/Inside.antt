-- What the pointer's `Model` and its proofs rest on. No public clause cites a module below.
pub mod Tally
pub mod Layout
pub mod Owner
