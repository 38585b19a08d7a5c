pub mod DeltaLemmas
pub mod NetLemmas
pub mod KeptLemmas
pub mod EachLemmas
