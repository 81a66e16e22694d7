pub mod CheckLemmas
mod ClassicalLemmas
mod GraphLemmas
mod InputLemmas
mod OutputLemmas
mod ReplayLemmas
mod RunLemmas
mod TableLemmas
mod WordLemmas
