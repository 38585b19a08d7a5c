pub mod LiveLemmas
pub mod NamedLemmas
pub mod AssigningLemmas
