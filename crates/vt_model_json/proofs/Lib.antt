pub mod StopLemmas
pub mod LoadingLemmas
pub mod NextLemmas
pub mod DifferenceLemmas
pub mod PlanLemmas
pub mod EntryLemmas
pub mod Dumped
