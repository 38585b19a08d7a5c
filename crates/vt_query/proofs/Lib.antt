pub mod HoldingLemmas
pub mod TablesLemmas
pub mod NarrowLemmas
pub mod NamedLemmas
