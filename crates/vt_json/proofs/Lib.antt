pub mod JsonLemmas
pub mod ShapeLemmas
