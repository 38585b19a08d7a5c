-- Words of private contracts alone.
pub mod Seen
pub mod Prepared
pub mod Marks
pub mod Printable
pub mod Begun
