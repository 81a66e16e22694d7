pub mod Range
pub mod Whole
pub mod Difference
pub mod Sums
pub mod Division
pub mod Residues
pub mod ResidueOf
