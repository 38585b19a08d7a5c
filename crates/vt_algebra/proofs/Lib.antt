pub mod SameLemmas
pub mod SetLemmas
pub mod ColumnsLemmas
pub mod KeysLemmas
pub mod MembersLemmas
pub mod RowsLemmas
pub mod PlansLemmas
