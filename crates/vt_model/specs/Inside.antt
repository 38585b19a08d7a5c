-- What the functions inside the crate promise each other. No public clause cites a module below.
pub mod Tables
pub mod FeatureTable
