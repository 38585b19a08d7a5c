-- What Link and Unlink drop and add, step by step.
pub mod Lists
pub mod Links
pub mod Ends
pub mod Displaces
pub mod Candidates
pub mod Arranged
pub mod Steps
pub mod Coming
pub mod LinkEdits
pub mod Both
pub mod Unlinking
pub mod Enough
pub mod Inside
pub mod Live
pub mod Anew
pub mod Returning
pub mod Childless
