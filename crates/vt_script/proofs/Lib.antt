mod WordLemmas
mod LineLemmas
mod ScriptLemmas
mod FormedLemmas
