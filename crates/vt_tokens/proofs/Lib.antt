mod ScanSteps
mod TestLemmas
mod FrontLemmas
mod WordLemmas
mod StringLemmas
mod CommentLemmas
mod MarkLemmas
mod CutLemmas
mod SpellingLemmas
mod LexemeLemmas
pub mod NameLemmas
mod DigitLemmas
mod UnquotedLemmas
mod QuotedLemmas
