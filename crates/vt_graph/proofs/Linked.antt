-- The links at the ends of objects, and those of the model.
pub mod Ends
pub mod Stored
pub mod Others
pub mod Bare
pub mod Changed
pub mod Steps
pub mod Held
pub mod Fitting
