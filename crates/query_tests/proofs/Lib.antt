mod SampleLemmas
