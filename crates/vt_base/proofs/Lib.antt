pub mod OrderLemmas
pub mod RowsLemmas
pub mod WrittenLemmas
pub mod FurtherLemmas
