-- No public clause cites a module below.
pub mod Chains
pub mod FactoredLeaf
pub mod Levels
pub mod Trees
