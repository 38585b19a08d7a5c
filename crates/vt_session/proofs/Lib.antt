mod BufferLemmas
mod DenialLemmas
mod StateLemmas
mod LiveLemmas
mod NextLemmas
