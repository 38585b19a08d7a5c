mod TouchingLemmas
mod EventLemmas
