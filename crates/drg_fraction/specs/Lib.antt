pub mod Work
pub mod Fraction
pub mod Operations
pub mod Field
pub mod Rationals
pub mod Text
pub mod Members
