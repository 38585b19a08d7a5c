-- No public clause cites a module below.
pub mod Order
pub mod Next
