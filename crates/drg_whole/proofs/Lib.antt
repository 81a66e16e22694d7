pub mod Ranges
pub mod Quotients
pub mod Floors
pub mod Multiples
pub mod Residues
pub mod Answers
