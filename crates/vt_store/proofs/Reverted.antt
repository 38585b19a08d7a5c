-- An edit that is taken back step by step.
pub mod Values
pub mod Objects
pub mod Whole
pub mod Raised
pub mod Settled
pub mod Ready
pub mod Run
