mod ConstraintLemmas
mod FileLemmas
mod MadeLemmas
mod NarrowLemmas
mod ReaderLemmas
mod ScopeLemmas
mod StandsLemmas
