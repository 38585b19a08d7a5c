pub mod AnswerLemmas
mod OneTextLemmas
mod DueLemmas
pub mod FetchLemmas
pub mod NamedLemmas
pub mod EventLemmas
pub mod SomeEventLemmas
pub mod StepNameLemmas
pub mod ReachLemmas
pub mod PutLemmas
pub mod FewLemmas
pub mod BeginLemmas
pub mod PlanLemmas
pub mod HeldLemmas
pub mod ReplyLemmas
pub mod PrintableLemmas
pub mod RunLemmas
