pub mod DepthLemmas
pub mod ExpressionLemmas
pub mod ReaderLemmas
pub mod PartLemmas
