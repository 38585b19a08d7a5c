-- No public clause cites a module below.
pub mod InOrder
pub mod EntryLaws
