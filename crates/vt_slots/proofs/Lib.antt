pub mod PlaceLemmas
pub mod ValuesLemmas
pub mod EndsLemmas
pub mod SlotsLemmas
