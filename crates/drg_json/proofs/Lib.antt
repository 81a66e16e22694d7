pub mod Plain
pub mod Lines
pub mod Floats
pub mod Members
pub mod Steps
