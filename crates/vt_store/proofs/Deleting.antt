-- What deleting an object does, step by step.
-- what is inside it
pub mod ListLemmas
pub mod Arranged
pub mod Levels
pub mod Counted
pub mod Exact
pub mod Found
-- the links that touch it
pub mod Links
pub mod Ends
pub mod Sides
-- the steps
pub mod Taken
pub mod Buried
pub mod ValuesOut
pub mod Steps
pub mod Burying
pub mod Values
pub mod Waiting
-- the edit
pub mod Same
pub mod Edit
-- all of it
pub mod Whole
pub mod Fitting
