pub mod ChainLemmas
pub mod LinkLemmas
pub mod SetLemmas
pub mod IndexLemmas
pub mod BucketLemmas
pub mod SeenLemmas
pub mod SideLemmas
pub mod TestLemmas
