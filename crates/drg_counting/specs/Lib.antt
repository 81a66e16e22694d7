pub mod EntryTests
pub mod Parity
