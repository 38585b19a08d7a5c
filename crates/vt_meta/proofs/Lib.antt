pub mod PlacesLemmas
pub mod FirstLemmas
pub mod ResolvedLemmas
pub mod DuplicateLemmas
pub mod SupersLemmas
pub mod BuildingLemmas
pub mod ClashLemmas
pub mod Sound
