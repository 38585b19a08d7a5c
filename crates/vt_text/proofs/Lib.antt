mod ExpressionLemmas
pub mod NameLemmas
mod DepthLemmas
mod KindLemmas
mod TreeLemmas
mod SpelledLemmas
mod MeantLemmas
