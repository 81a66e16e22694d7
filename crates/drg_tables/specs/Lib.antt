pub mod Distinct
pub mod Laws
pub mod Output
pub mod Reading
pub mod Rows
pub mod Writing
